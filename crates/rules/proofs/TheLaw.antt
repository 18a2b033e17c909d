-- The law holds, wherever an expiry stands.
use Rattle.std.proofs.Common.{◌≤◌, List, ◌∙◌, arith}
use Rattle.book.specs.Books.{Contents, Sound}
use Rattle.pairing.specs.declared.line.Line.{Line}
use Rattle.pairing.specs.Lines.{lines_of}
use Rattle.rules.specs.Numbers.{session_number}
use Rattle.rules.specs.Tally.{Opening, Tally}
use Rattle.rules.specs.Histories.{tally_of}
use Rattle.rules.specs.Law.{Paired, LawHolds}
use Rattle.rules.proofs.Kept.{Kept}
use Rattle.rules.proofs.KeptAlways.{kept, full_lots}
use Rattle.rules.proofs.MadeLines.{made_lines}
use Rattle.rules.proofs.StayPaired.{well_kept, sold_kept, length_kept}
use Rattle.rules.proofs.Coverage.{lived_covered}
use Rattle.rules.proofs.AtTheEnd.{ended_holds}
use Rattle.rules.proofs.ZeroSum.{claims_zero_of}

-- What pairing made stays, whatever was taken, settled and returned since.
pub paired : (o : Opening) (t : Tally) → Sound o.book → Kept o t → 4 ≤ session_number t.session → Paired o.book t
paired o t ok k s4 =
    let b : Contents = o.book in
    let ls : List Line = lines_of b t.lots in
    let e = k.paired s4 in
    let made = made_lines b ok t.lots (full_lots o t k (omega arith)) in
    record {
      well = well_kept b t.lines ls e made.well;
      lots = λ row asset does in_it. sold_kept t.lines ls e row asset ∙ made.in_lots row asset does in_it;
      few = let n = length_kept t.lines ls e in let f = made.few in omega (arith, n, f);
    }

pub the_law_holds : LawHolds
the_law_holds o h n st =
    let k = kept o h st.opens st.lived in
    record {
      session = st.session;
      lines = st.table;
      paired = paired o (tally_of o h) st.opens.book k;
      registers = st.registers;
      covered = lived_covered o h st.lived;
      ended = ended_holds o h n st;
      nets = st.nets;
      claims = st.claims;
      zero_sum = claims_zero_of o.book (tally_of o h) n.claim st.opens.book k.closed st.claims;
    }
