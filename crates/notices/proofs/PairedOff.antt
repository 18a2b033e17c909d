-- Pairing goes on by the rules.
use Rattle.std.proofs.Common.{◌≡◌, ℕ, ◌≤◌, true, false, cond, eqb, List, ◌∷◌, length, get_or, take, drop, ℤ, pos, is_ok, None, Ok, Err, Result, sym, refl, ap, ◌∙◌, subst, inl, inr, arith}
use lib.IntN.{sub_ℕ}
use Rattle.std.specs.List.{AllByRecursion}
use Rattle.std.proofs.ByRecursion.{All-weaker}
use Rattle.std.proofs.lemmas.List.{get_or_past, take_at}
use Rattle.std.proofs.lemmas.Bool.{cases_lt, cond-false, eqb-true, le-ltb, ne_eqb}
use Rattle.book.specs.Limits.{most_agent}
use Rattle.book.specs.Books.{Contents, Sound, value}
use Rattle.book.specs.Data.{contents}
use Rattle.register.specs.Rules.{Meaning}
use Rattle.pairing.specs.declared.line.Line.{Line}
use Rattle.pairing.specs.Lines.{buyer_agent, seller_agent, lines_of, net, value_bought, value_sold}
use Rattle.pairing.proofs.LinesAgree.{lines_agree}
use Rattle.pairs.specs.declared.fault.PairingFault.{PairingFault}
use Rattle.pairs.specs.declared.fault.PairingFault.TheVariants.{FewLines}
use Rattle.pairs.specs.Records.{lots_in}
use Rattle.pairs.specs.Outcome.{too_small, pair_answer, pair_leaves}
use Rattle.delivery.specs.Sums.{ValuesFit}
use Rattle.delivery.proofs.InRange.{values_fit}
use Rattle.rules.specs.declared.answer.Answer.{Answer}
use Rattle.rules.specs.declared.answer.Answer.TheVariants.{Lines}
use Rattle.rules.specs.declared.fault.Fault.{Fault}
use Rattle.rules.specs.Numbers.{session_number}
use Rattle.rules.specs.Tally.{Opening}
use Rattle.rules.specs.Verdict.{verdict, in_its_session}
use Rattle.rules.specs.Histories.{Entry, tally_of, Lived, over, register, Stands}
use Rattle.rules.proofs.Balances.{agent_in}
use Rattle.rules.proofs.Kept.{Kept, Sane}
use Rattle.rules.proofs.KeptAlways.{kept}
use Rattle.rules.proofs.Opened.{room_for}
use Rattle.rules.proofs.Totals.{sum_zero}
use Rattle.state.specs.declared.state.State.{State}
use Rattle.state.specs.Seeing.{seen}
use Rattle.state.proofs.Standing.{due_judged, posted_told}
use Rattle.state.specs.Calls.{pair_call}
use Rattle.notices.specs.NextSession.{book_paired}
use Rattle.notices.proofs.HeldLots.{same_lots}

-- ---- nets

-- An agent that no book has nets nothing.
no_agent : (b : Contents) (ls : List Line) (agent : ℕ) → Sound b → AllByRecursion (Sane b) ls → 65 ≤ agent → net b ls agent ≡ pos 0
no_agent b ls agent sound sane past = ap (λ (x : ℕ). sub_ℕ x (value_bought b (λ l. l.contracts) ls agent)) sold ∙ ap (λ (x : ℕ). sub_ℕ 0 x) bought
  where
    bought : value_bought b (λ l. l.contracts) ls agent ≡ 0
    bought = sum_zero (λ l. cond (eqb (buyer_agent b l) agent) (value b l.asset l.contracts) 0) ls
        (All-weaker (Sane b) (λ l. cond (eqb (buyer_agent b l) agent) (value b l.asset l.contracts) 0 ≡ 0) (λ l v. let q = (agent_in b sound l.buyer v.buyer).1 in rw (ne_eqb (buyer_agent b l) agent (λ z. omega arith)) refl) ls sane)

    sold : value_sold b (λ l. l.contracts) ls agent ≡ 0
    sold = sum_zero (λ l. cond (eqb (seller_agent b l) agent) (value b l.asset l.contracts) 0) ls
        (All-weaker (Sane b) (λ l. cond (eqb (seller_agent b l) agent) (value b l.asset l.contracts) 0 ≡ 0) (λ l v. let q = (agent_in b sound l.seller v.seller).1 in rw (ne_eqb (seller_agent b l) agent (λ z. omega arith)) refl) ls sane)

-- The nets of all agents of a book are those of every number.
each_agent : (b : Contents) (ls : List Line) (nets : List ℤ) → Sound b → AllByRecursion (Sane b) ls → length nets ≡ 65
    → ((k : ℕ) → k ≤ most_agent → get_or nets k (pos 0) ≡ net b ls k) → (agent : ℕ) → get_or nets agent (pos 0) ≡ net b ls agent
each_agent b ls nets sound sane long each agent = elim (cases_lt agent 65) [
  | inl lt ↦ each agent (omega arith)
  | inr past ↦ get_or_past nets agent (pos 0) (omega arith) ∙ sym (no_agent b ls agent sound sane past)
]

-- ---- the table

module _ (o : Opening) (h : List Entry) (e : State) (lines : List Line) (s c : Meaning) (st : Stands o h (seen e lines s c)) (now' : in_its_session (tally_of o h) pair_call ≡ true) where
  -- the lines of the book, from the lots notified
  abbrev made : List Line
  made = lines_of o.book (tally_of o h).lots

  -- no place is used yet
  unused : lines ≡ o.table
  unused =
      let third = eqb-true (session_number (tally_of o h).session) 3 now' in
      st.table ∙ ap (λ (ls : List Line). over ls o.table) ((kept o h st.opens st.lived).no_lines (omega (arith, third)))

  -- there are places for all lines
  enough : too_small (contents e.book) lines ≡ false
  enough =
      let room = (room_for o st.opens).places in
      let q = ap (λ (b : Contents). length b.holders) st.book in
      let r = ap length unused in
      le-ltb _ _ (omega (arith, room, q, r))

  same_lines : lines_of (contents e.book) (lots_in (contents e.book) e.lots) ≡ made
  same_lines =
      ap (λ (b : Contents). lines_of b (lots_in b e.lots)) st.book
      ∙ lines_agree o.book (lots_in o.book e.lots) (tally_of o h).lots (λ row a _. same_lots o h e lines s c st row a)

  counted : pair_answer (contents e.book) (lots_in (contents e.book) e.lots) lines ≡ Ok (length made)
  counted =
      cond-false {A = Result ℕ PairingFault} (too_small (contents e.book) lines) (Err FewLines) (Ok (length (lines_of (contents e.book) (lots_in (contents e.book) e.lots)))) enough
      ∙ ap (λ (ls : List Line). Ok (length ls)) same_lines

  pub never_small : (r : Result ℕ PairingFault) (fault : PairingFault) → r ≡ pair_answer (contents e.book) (lots_in (contents e.book) e.lots) lines → r ≡ Err fault → ⊥
  never_small r fault answer failed = let f = counted in let z : ◌≡◌ {A = ℕ} 0 1 = cc in omega arith

  -- ---- pairing is accepted

  module _ (n : ℕ) (r : Result ℕ PairingFault) (answer : r ≡ pair_answer (contents e.book) (lots_in (contents e.book) e.lots) lines) (is : r ≡ Ok n)
      (after : List Line) (leaves : after ≡ pair_leaves (contents e.book) (lots_in (contents e.book) e.lots) lines)
      (nets : List ℤ) (long : length nets ≡ 65)
      (each : (k : ℕ) → k ≤ most_agent → ValuesFit (contents e.book) (take n after) k → get_or nets k (pos 0) ≡ net (contents e.book) (take n after) k) where
    count : n ≡ length made
    count = let f = counted in cc

    written : after ≡ over made o.table
    written =
        leaves
        ∙ (cond-false (too_small (contents e.book) lines) lines (over (lines_of (contents e.book) (lots_in (contents e.book) e.lots)) lines) enough
        ∙ (ap (λ (ls : List Line). over ls lines) same_lines ∙ ap (over made) unused))

    first : take n after ≡ made
    first = ap (take n) written ∙ take_at made (drop (length made) o.table) n (sym count)

    judged : verdict o (tally_of o h) pair_call ≡ Ok (Lines n)
    judged = due_judged o (tally_of o h) pair_call None now' refl refl ∙ ap {B = Result Answer Fault} (λ (k : ℕ). Ok (Lines k)) (sym count)

    lived : Lived o ((pair_call, Ok (Lines n)) ∷ h)
    lived = (sym judged, st.lived)

    kept_then : Kept o (tally_of o ((pair_call, Ok (Lines n)) ∷ h))
    kept_then = kept o ((pair_call, Ok (Lines n)) ∷ h) st.opens lived

    netted : (k : ℕ) → k ≤ most_agent → get_or nets k (pos 0) ≡ net o.book made k
    netted k le =
        subst (λ (ls : List Line). (ValuesFit o.book ls k → get_or nets k (pos 0) ≡ net o.book ls k)) first
        (subst (λ (b : Contents). (ValuesFit b (take n after) k → get_or nets k (pos 0) ≡ net b (take n after) k)) st.book (each k le))
        (values_fit o.book made st.opens.book kept_then.few k)

    pub pair_accepted : Stands o ((pair_call, Ok (Lines n)) ∷ h) (seen (book_paired e n nets) after s c)
    pair_accepted = record {
      opens = st.opens;
      lived = lived;
      book = st.book;
      session = refl;
      lots = st.lots;
      notified = st.notified;
      count = count;
      table = written;
      draws = st.draws;
      nets = each_agent o.book made nets st.opens.book kept_then.lines long netted;
      claims = st.claims;
      registers = λ side. posted_told o h (seen e lines s c) pair_call st side (register (seen e lines s c) side) (ap is_ok judged) refl;
    }
