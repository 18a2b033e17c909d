-- An amount that 64 bits do not hold is as short as the most that they hold: no balance of a lawful register covers either.
use Rattle.std.proofs.Common.{◌≡◌, ℕ, ◌<◌, ◌≤◌, min, Some, None, Option, sym, refl, ap, ◌∙◌, ⊎_elim, arith}
use Rattle.std.proofs.lemmas.Bool.{cases_lt}
use Rattle.std.proofs.lemmas.Bool.Decides.{nat_tests}
use Rattle.register.specs.Rules.{most, Meaning, Lawful, transfer_refused, after_transfer, with_move, unless_refused}
use Rattle.register.proofs.Sums.{at_most_sum}
use Rattle.register.proofs.Meanings.{move_told}
use Rattle.delivery.specs.Widths.{most_64}

pub balance_bounded : (m : Meaning) → Lawful m → (account asset : ℕ) → m.balance account asset ≤ most
balance_bounded m law account asset =
    ⊎_elim
    (λ (h : account < m.accounts).
    let part = at_most_sum (λ k. m.balance k asset) m.accounts account h in
    let whole = law.covered asset in let few = law.bounded asset in
    omega (arith, part, whole, few))
    (λ (h : m.accounts ≤ account). let none = law.no_account account asset h in omega (arith, none))
    (cases_lt account m.accounts)

both_short : (m : Meaning) (giver taker asset n k : ℕ) → m.balance giver asset < n → m.balance giver asset < k → transfer_refused m giver taker asset k ≡ transfer_refused m giver taker asset n
both_short m giver taker asset n k p q = grind (arith, nat_tests)

not_none : {F X : Type 0} (refused : Option F) (new old : X) → (refused ≡ None → ⊥) → unless_refused refused new old ≡ old
not_none None new old never = absurd (never refl)
not_none (Some fault) new old never = refl

short_keeps : (m : Meaning) (giver taker asset n : ℕ) → m.balance giver asset < n → after_transfer m giver taker asset n ≡ m
short_keeps m giver taker asset n p =
    not_none (transfer_refused m giver taker asset n) (with_move m giver taker asset n) m
    (λ none. let told = (move_told m giver taker asset n none).enough in omega (arith, told))

pub wide_refused : (m : Meaning) → Lawful m → (giver taker asset n : ℕ) → transfer_refused m giver taker asset (min n most_64) ≡ transfer_refused m giver taker asset n
wide_refused m law giver taker asset n =
    let few = balance_bounded m law giver asset in
    ⊎_elim
    (λ (h : n < 18446744073709551616). let e : min n most_64 ≡ n = omega arith in ap (transfer_refused m giver taker asset) e)
    (λ (h : 18446744073709551616 ≤ n). both_short m giver taker asset n (min n most_64) (omega (arith, few)) (omega (arith, few)))
    (cases_lt n 18446744073709551616)

pub wide_after : (m : Meaning) → Lawful m → (giver taker asset n : ℕ) → after_transfer m giver taker asset (min n most_64) ≡ after_transfer m giver taker asset n
wide_after m law giver taker asset n =
    let few = balance_bounded m law giver asset in
    ⊎_elim
    (λ (h : n < 18446744073709551616). let e : min n most_64 ≡ n = omega arith in ap (after_transfer m giver taker asset) e)
    (λ (h : 18446744073709551616 ≤ n). short_keeps m giver taker asset (min n most_64) (omega (arith, few)) ∙ sym (short_keeps m giver taker asset n (omega (arith, few))))
    (cases_lt n 18446744073709551616)
