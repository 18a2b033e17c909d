-- Where an expiry stands it has room, a refused call leaves it standing, and its registers follow the postings of a call.
use Rattle.std.proofs.Common.{◌≡◌, ℕ, ◌≤◌, Bool, List, [], ◌∷◌, map, length, drop, sym, refl, ap, ◌∙◌, inl, inr, arith, length-append, length-drop}
use Rattle.std.proofs.lemmas.Bool.{cases_lt}
use Rattle.register.specs.Rules.{Meaning}
use Rattle.book.specs.Books.{Contents}
use Rattle.pairing.specs.declared.line.Line.{Line}
use Rattle.rules.specs.declared.side.Side.TheVariants.{Securities, Cash}
use Rattle.rules.specs.declared.fault.Part.{Part}
use Rattle.rules.specs.declared.fault.Cause.TheVariants.{TooSmall}
use Rattle.rules.specs.Numbers.{session_number}
use Rattle.rules.specs.Tally.{Opening, Tally, told, accepted}
use Rattle.rules.specs.Verdict.{first_failed, room, opening_checks}
use Rattle.rules.specs.Histories.{tally_of, register, over, Opens}
use Rattle.rules.specs.Postings.{Posting, postings, FirstRefused}
use Rattle.rules.specs.Standing.{RoomStays, RefusedStands, RegistersFollow, FirstOf, CoveredOrShort}
use Rattle.rules.proofs.Kept.{Kept}
use Rattle.rules.proofs.KeptAlways.{kept}
use Rattle.rules.proofs.Opened.{passed, none_failed, room_for}
use Rattle.rules.proofs.TheLaw.{paired}
use Rattle.rules.proofs.SameRegisters.{same_refusal, same_followed}
use Rattle.rules.proofs.PostingsFollow.{postings_follow}
use Rattle.rules.proofs.OnlyShort.{only_short}

-- ---- room

-- Lines never pass the places: there are none before pairing, and few after it.
lines_fit : (o : Opening) (t : Tally) (p : Opens o) → Kept o t → length t.lines ≤ length o.table
lines_fit o t p k = elim (cases_lt (session_number t.session) 4) [
  | inl before ↦ rw (k.no_lines before) (omega arith)
  | inr on ↦ let f = (paired o t p.book k on).few in let r = (room_for o p).places in omega (arith, f, r)
]

over_length : (ls table : List Line) → length ls ≤ length table → length (over ls table) ≡ length table
over_length ls table h = let e = length-append ls (drop (length ls) table) in let f = length-drop (length ls) table in omega (arith, e, f, h)

room_same : (b d : Contents) (places spaces : ℕ) (m k c e : Meaning) → b ≡ d → places ≡ spaces → m.accounts ≡ k.accounts → m.assets ≡ k.assets → c.accounts ≡ e.accounts → c.assets ≡ e.assets
    → room b places m c ≡ room d spaces k e
room_same b d places spaces m k c e p q r s u v = rw (p, q, r, s, u, v) refl

pub room_stays : RoomStays
room_stays o h n c st =
    let t : Tally = tally_of o h in
    let k = kept o h st.opens st.lived in
    let places : length n.table ≡ length o.table = ap length st.table ∙ over_length t.lines o.table (lines_fit o t st.opens k) in
    let q = passed (opening_checks o) st.opens.not_refused in
    ap (λ (r : List (Bool × Part)). first_failed (map (λ x. (x.0, record { cause = TooSmall x.1; call = c })) r))
    (room_same n.book o.book (length n.table) (length o.table) n.securities o.securities n.cash o.cash st.book places
    (st.registers Securities).accounts (st.registers Securities).assets (st.registers Cash).accounts (st.registers Cash).assets)
    ∙ none_failed (map (λ x. (x.0, record { cause = TooSmall x.1; call = c })) (room o.book (length o.table) o.securities o.cash)) (q.1.0, (q.1.1.0, (q.1.1.1.0, tt)))

-- ---- a refused call

pub refused_stands : RefusedStands
refused_stands o h n c e st v = record {
  opens = st.opens;
  lived = (sym v, st.lived);
  book = st.book;
  session = st.session;
  lots = st.lots;
  notified = st.notified;
  table = st.table;
  count = st.count;
  draws = st.draws;
  nets = st.nets;
  claims = st.claims;
  registers = st.registers;
}

-- ---- its own registers

pub registers_follow : RegistersFollow
registers_follow o h n c st ok side =
    same_followed side (register n side) (told o (tally_of o h) side) (postings o (tally_of o h) c) (told o (accepted o (tally_of o h) c) side) (st.registers side)
    (postings_follow o h c st.opens st.lived ok side)

pub covered_or_short : CoveredOrShort
covered_or_short o h n c side st d e = go (postings o (tally_of o h) c) (only_short o h c side st.opens st.lived d e)
  where
    go : (ps : List Posting) → FirstRefused o (tally_of o h) c side ps → FirstOf o (tally_of o h) n c side ps
    go [] f = f
    go (p ∷ ps) f = same_refusal side (register n side) (told o (tally_of o h) side) p (st.registers side) ∙ f
