-- At the end account 0 holds nothing, and every line is finished.
use Rattle.std.proofs.Common.{◌≡◌, ℕ, zero, suc, ◌+◌, ◌*◌, ◌<◌, Bool, true, false, cond, List, ◌∷◌, length, get_or, refl, ap, ◌∙◌, inl, inr, mul-zero, arith}
use Rattle.std.specs.List.{AllByRecursion}
use Rattle.std.proofs.ByRecursion.{All-weaker, All-get_or}
use Rattle.std.proofs.lemmas.List.{get_or_past}
use Rattle.std.proofs.lemmas.Bool.{cases_lt}
use Rattle.pairing.specs.declared.line.Line.{Line}
use Rattle.rules.specs.declared.session.Session.TheVariants.{Closed}
use Rattle.rules.specs.declared.side.Side.TheVariants.{Securities, Cash}
use Rattle.pairing.specs.Lines.{total, of_asset, inside}
use Rattle.rules.specs.Numbers.{session_number}
use Rattle.rules.specs.Tally.{Opening, Tally, held, all_held, units, money, no_line}
use Rattle.rules.specs.Histories.{Entry, Opens, Seen, Stands, tally_of}
use Rattle.rules.specs.Law.{Finished, Ended}
use Rattle.rules.proofs.Totals.{sum_zero}
use Rattle.rules.proofs.Kept.{Kept, NoneIn, gave, got}
use Rattle.rules.proofs.Balances.{row_0, agent_0}
use Rattle.rules.proofs.Opened.{house_at_first}
use Rattle.rules.proofs.KeptAlways.{kept}

-- account 0 holds the units of the contracts in, and the draws; always
pub house_units : (o : Opening) (t : Tally) (a : ℕ) → Opens o → Kept o t → a < length o.book.assets → units o t 0 a ≡ o.book.terms.multiplier * total (of_asset a) inside t.lines
house_units o t a p s lt =
    let m : ℕ = o.book.terms.multiplier in
    let z = row_0 o.book t.lines a s.lines in
    let b = (house_at_first o p).0 a lt in
    let c = s.house Securities a in
    let g : m * gave t.lines 0 a ≡ 0 = ap (λ x. m * x) z.0 ∙ mul-zero m in
    let e : m * (got t.lines 0 a + total (of_asset a) inside t.lines) ≡ m * total (of_asset a) inside t.lines = ap (λ x. m * x) (let y = z.1 in omega (arith, y)) in
    omega (arith, b, c, g, e)

pub house_money : (o : Opening) (t : Tally) → Opens o → Kept o t → held t 0 ≡ 0 → money o t 0 0 ≡ all_held t
house_money o t p s h =
    let z = agent_0 o.book (λ l. l.settled) t.lines p.book s.lines in
    let z₁ = z.0 in let z₂ = z.1 in
    let b = (house_at_first o p).1 in
    let c = s.house Cash 0 in
    omega (arith, z₁, z₂, b, c, h)

not_in : (a : ℕ) (l : Line) → NoneIn l → cond (of_asset a l) (inside l) 0 ≡ 0
not_in a l n = let e : inside l ≡ 0 = omega arith in ap (λ z. cond (of_asset a l) z 0) e ∙ nil (of_asset a l)
  where
    nil : (c : Bool) → cond {A = ℕ} c 0 0 ≡ 0
    nil true = refl
    nil false = refl

none_at : (ls : List Line) → AllByRecursion NoneIn ls → (i : ℕ) → NoneIn (get_or (no_line ∷ ls) i no_line)
none_at ls a zero = refl
none_at ls a (suc j) = elim (cases_lt j (length ls)) [
  | inl lt ↦ All-get_or NoneIn ls j no_line lt a
  | inr past ↦ rw (get_or_past ls j no_line past) refl
]

pub told_end : (o : Opening) (t : Tally) → Opens o → Kept o t → session_number t.session ≡ 6
    → (money o t 0 0 ≡ 0) × ((a : ℕ) → a < length o.book.assets → units o t 0 a ≡ 0) × ((i : ℕ) → Finished t i)
told_end o t p s e =
    let m : ℕ = o.book.terms.multiplier in
    let none = s.none_in e in
    let dr = s.draws_after (omega arith) in
    let h : held t 0 ≡ 0 = rw dr refl in
    let ah : all_held t ≡ 0 = rw dr refl in (
      house_money o t p s h ∙ ah,
      (λ a lt. house_units o t a p s lt ∙ (ap (λ x. m * x) (sum_zero (λ l. cond (of_asset a l) (inside l) 0) t.lines (All-weaker NoneIn (λ l. cond (of_asset a l) (inside l) 0 ≡ 0) (not_in a) t.lines none)) ∙ mul-zero m)),
      (λ i. record { settled_or_closed = s.finished e i; none_in = none_at t.lines none i }),
    )

pub ended_holds : (o : Opening) (h : List Entry) (n : Seen) → Stands o h n → (tally_of o h).session ≡ Closed → Ended o h n
ended_holds o h n st e =
    let q = told_end o (tally_of o h) st.opens (kept o h st.opens st.lived) (ap session_number e) in
    record {
      no_cash = (st.registers Cash).balance 0 0 ∙ q.0;
      no_units = λ a lt. (st.registers Securities).balance 0 a ∙ q.1 a lt;
      lines = q.2;
    }
