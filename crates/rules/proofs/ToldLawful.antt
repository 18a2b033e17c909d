-- Registers that were lawful at the opening are told as lawful ones after every history.
use Rattle.std.proofs.Common.{◌≡◌, ℕ, ◌+◌, ◌*◌, ◌<◌, ◌≤◌, Bool, true, false, cond, ◌&&◌, eqb, ◌⊎◌, List, refl, ap, ◌∙◌, inl, inr, mul-zero, arith}
use Rattle.std.specs.List.{AllByRecursion}
use Rattle.std.proofs.ByRecursion.{All-weaker}
use Rattle.std.proofs.lemmas.Bool.{ne_eqb, cases_Bool}
use Rattle.register.specs.Rules.{Lawful}
use Rattle.book.specs.Books.{Contents, value}
use Rattle.pairing.specs.declared.line.Line.{Line}
use Rattle.pairing.specs.Lines.{total, of_buyer, of_asset, inside, seller_agent}
use Rattle.rules.specs.declared.side.Side.{Side}
use Rattle.rules.specs.declared.side.Side.TheVariants.{Securities, Cash}
use Rattle.rules.specs.Tally.{Opening, Tally, Credited, opened, same_side, credited, issued, all_held, at_0, units, money, told}
use Rattle.rules.specs.Histories.{Opens}
use Rattle.rules.proofs.Totals.{sum_zero}
use Rattle.rules.proofs.Kept.{Kept, Sane, got, earned}
use Rattle.rules.proofs.CreditsKnown.{CreditsKnown, known_to}
use Rattle.rules.proofs.Opened.{room_for}
use Rattle.rules.proofs.Conserved.{units_sum, money_sum}

-- ---- no credits to what is not known

uncredited : (s x y : Bool) (n : ℕ) → (s ≡ true → (x && y) ≡ false) → cond (s && (x && y)) n 0 ≡ 0
uncredited true x y n h = rw (h refl) refl
uncredited false x y n h = refl

no_credit : (o : Opening) (t : Tally) (side : Side) (k a : ℕ) → CreditsKnown o t → ((opened o side).accounts ≤ k) ⊎ ((opened o side).assets ≤ a) → credited t side k a ≡ 0
no_credit o t side k a c past =
    sum_zero (λ (x : Credited). cond (same_side x.side side && (eqb x.account k && eqb x.asset a)) x.amount 0) t.credits
    (All-weaker (λ (x : Credited). (x.account < (opened o x.side).accounts) × (x.asset < (opened o x.side).assets))
    (λ x. cond (same_side x.side side && (eqb x.account k && eqb x.asset a)) x.amount 0 ≡ 0)
    (λ x h. uncredited (same_side x.side side) (eqb x.account k) (eqb x.asset a) x.amount (λ e.
    let w = known_to o side x e h in
    elim past [
      | inl p ↦ let q = w.0 in rw (ne_eqb x.account k (λ z. omega (arith, p, q, z))) refl
      | inr p ↦ let q = w.1 in rw (ne_eqb x.asset a (λ z. omega (arith, p, q, z))) (never (eqb x.account k))
    ])) t.credits c.each)
  where
    never : (b : Bool) → (b && false) ≡ false
    never true = refl
    never false = refl

no_issue : (o : Opening) (t : Tally) (side : Side) (a : ℕ) → CreditsKnown o t → (opened o side).assets ≤ a → issued t side a ≡ 0
no_issue o t side a c past =
    sum_zero (λ (x : Credited). cond (same_side x.side side && eqb x.asset a) x.amount 0) t.credits
    (All-weaker (λ (x : Credited). (x.account < (opened o x.side).accounts) × (x.asset < (opened o x.side).assets))
    (λ x. cond (same_side x.side side && eqb x.asset a) x.amount 0 ≡ 0)
    (λ x h. elim (cases_Bool (same_side x.side side)) [
      | inl e ↦ let q = (known_to o side x e h).1 in rw (e, ne_eqb x.asset a (λ z. omega (arith, past, q, z))) refl
      | inr e ↦ rw e refl
    ]) t.credits c.each)

at_0_past : (k n : ℕ) → 0 < k → at_0 k n ≡ 0
at_0_past k n p = rw (ne_eqb k 0 (λ z. omega arith)) refl

-- ---- securities

no_units : (o : Opening) (t : Tally) (k a : ℕ) → o.securities.balance k a ≡ 0 → credited t Securities k a ≡ 0 → got t.lines k a + at_0 k (total (of_asset a) inside t.lines) ≡ 0 → units o t k a ≡ 0
no_units o t k a b c z =
    let m : ℕ = o.book.terms.multiplier in
    let e : m * (got t.lines k a + at_0 k (total (of_asset a) inside t.lines)) ≡ 0 = ap (λ x. m * x) z ∙ mul-zero m in
    omega (arith, b, c, e)

none_passes : (b : Contents) (p : Line → Bool) (f : Line → ℕ) (ls : List Line) → ((l : Line) → Sane b l → p l ≡ false) → AllByRecursion (Sane b) ls → total p f ls ≡ 0
none_passes b p f ls never sane = sum_zero (λ l. cond (p l) (f l) 0) ls (All-weaker (Sane b) (λ l. cond (p l) (f l) 0 ≡ 0) (λ l v. rw (never l v) refl) ls sane)

both_false : (x y : Bool) → y ≡ false → (x && y) ≡ false
both_false true y e = e
both_false false y e = refl

securities_lawful : (o : Opening) (t : Tally) → Opens o → Kept o t → CreditsKnown o t → Lawful o.securities → Lawful (told o t Securities)
securities_lawful o t p k c law =
    let b : Contents = o.book in
    let rows = (room_for o p).rows in
    let assets = (room_for o p).assets in
    record {
      no_account = λ account asset past. no_units o t account asset (law.no_account account asset past) (no_credit o t Securities account asset c (inl past))
          (let g : got t.lines account asset ≡ 0 = none_passes b (of_buyer account asset) (λ l. l.settled) t.lines (λ l v. let h = v.buyer.1 in rw (ne_eqb l.buyer account (λ z. omega (arith, h, rows, past, z))) refl) k.lines in
          let h = at_0_past account (total (of_asset asset) inside t.lines) (omega (arith, rows, past)) in omega (arith, g, h));
      no_asset = λ account asset past. no_units o t account asset (law.no_asset account asset past) (no_credit o t Securities account asset c (inr past))
          (let g : got t.lines account asset ≡ 0 = none_passes b (of_buyer account asset) (λ l. l.settled) t.lines (λ l v. let h = v.asset in both_false (eqb l.buyer account) (eqb l.asset asset) (ne_eqb l.asset asset (λ z. omega (arith, h, assets, past, z)))) k.lines in
          let h : total (of_asset asset) inside t.lines ≡ 0 = none_passes b (of_asset asset) inside t.lines (λ l v. let h = v.asset in ne_eqb l.asset asset (λ z. omega (arith, h, assets, past, z))) k.lines in
          nil (eqb account 0) (got t.lines account asset) (total (of_asset asset) inside t.lines) g h);
      no_issue = λ asset past. let x = law.no_issue asset past in let y = no_issue o t Securities asset c past in omega (arith, x, y);
      covered = λ asset. let x = units_sum o t asset p k c in let y = law.covered asset in omega (arith, x, y);
      bounded = λ asset. c.issues Securities asset (law.bounded asset);
    }
  where
    nil : (z : Bool) (x y : ℕ) → x ≡ 0 → y ≡ 0 → x + cond z y 0 ≡ 0
    nil true x y e f = omega arith
    nil false x y e f = omega arith

-- ---- cash

no_money : (o : Opening) (t : Tally) (k a : ℕ) → o.cash.balance k a ≡ 0 → credited t Cash k a ≡ 0 → at_0 a (earned o.book t.lines k + at_0 k (all_held t)) ≡ 0 → money o t k a ≡ 0
no_money o t k a b c z = omega (arith, b, c, z)

nothing_at_0 : (a n : ℕ) → n ≡ 0 → at_0 a n ≡ 0
nothing_at_0 a n e = go (eqb a 0)
  where
    go : (b : Bool) → cond b n 0 ≡ 0
    go true = e
    go false = refl

cash_lawful : (o : Opening) (t : Tally) → Opens o → Kept o t → CreditsKnown o t → Lawful o.cash → Lawful (told o t Cash)
cash_lawful o t p k c law =
    let b : Contents = o.book in
    let cash = (room_for o p).cash in
    let first = (room_for o p).agents 1 (omega arith, p.book.holder_count.0) in
    record {
      no_account = λ account asset past. no_money o t account asset (law.no_account account asset past) (no_credit o t Cash account asset c (inl past))
          (nothing_at_0 asset (earned b t.lines account + at_0 account (all_held t))
          (let g : earned b t.lines account ≡ 0 = none_passes b (λ l. eqb (seller_agent b l) account) (λ l. value b l.asset l.settled) t.lines (λ l v. let h = (room_for o p).agents l.seller v.seller in ne_eqb (seller_agent b l) account (λ z. omega (arith, h, past, z))) k.lines in
          let h = at_0_past account (all_held t) (omega (arith, first, past)) in omega (arith, g, h)));
      no_asset = λ account asset past. no_money o t account asset (law.no_asset account asset past) (no_credit o t Cash account asset c (inr past))
          (at_0_past asset (earned b t.lines account + at_0 account (all_held t)) (omega (arith, cash, past)));
      no_issue = λ asset past. let x = law.no_issue asset past in let y = no_issue o t Cash asset c past in omega (arith, x, y);
      covered = λ asset. let x = money_sum o t asset p k c in let y = law.covered asset in omega (arith, x, y);
      bounded = λ asset. c.issues Cash asset (law.bounded asset);
    }

pub told_lawful : (o : Opening) (t : Tally) → Opens o → Kept o t → CreditsKnown o t → (side : Side) → Lawful (opened o side) → Lawful (told o t side)
told_lawful o t p k c Securities law = securities_lawful o t p k c law
told_lawful o t p k c Cash law = cash_lawful o t p k c law
