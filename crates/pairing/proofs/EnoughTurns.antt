-- As many turns as there are open holders suffice to make all pairs of a group.
use Rattle.std.proofs.Common.{◌≡◌, ℕ, zero, suc, ◌+◌, ◌≤◌, List, [], Some, None, Option, sym, refl, subst, arith}
use Rattle.pairing.specs.declared.pair.Unpaired.{Unpaired}
use Rattle.pairing.specs.declared.pair.Pair.{Pair}
use Rattle.pairing.proofs.PairRelations.{Repeats, stop, more, open_count}
use Rattle.pairing.specs.Pairing.{then_on, repeat, paired}

-- Where each pair closes an open holder, as many turns as there are open holders suffice.
pub run_repeats : (next : List Unpaired → Option Pair) → ((hs : List Unpaired) (p : Pair) → next hs ≡ Some p → open_count (paired p hs) + 1 ≤ open_count hs)
    → (n : ℕ) (hs : List Unpaired) → open_count hs ≤ n → Repeats next hs (repeat n next hs).0 (repeat n next hs).1
run_repeats next falls zero hs few = go (next hs) refl
  where
    go : (o : Option Pair) → next hs ≡ o → Repeats next hs [] hs
    go None e = stop e
    go (Some p) e = let f = falls hs p e in absurd (omega (arith, f, few))
run_repeats next falls (suc n) hs few = go (next hs) refl (λ p h. run_repeats next falls n (paired p hs) h)
  where
    go : (o : Option Pair) → next hs ≡ o → ((p : Pair) → open_count (paired p hs) ≤ n → Repeats next (paired p hs) (repeat n next (paired p hs)).0 (repeat n next (paired p hs)).1)
        → Repeats next hs (then_on (next hs) hs (λ p. repeat n next (paired p hs))).0 (then_on (next hs) hs (λ p. repeat n next (paired p hs))).1
    go None e ih = let R : Option Pair → Type 0 = λ o. Repeats next hs (then_on o hs (λ p. repeat n next (paired p hs))).0 (then_on o hs (λ p. repeat n next (paired p hs))).1 in
        subst R (sym e) (stop e)
    go (Some p) e ih = let R : Option Pair → Type 0 = λ o. Repeats next hs (then_on o hs (λ p. repeat n next (paired p hs))).0 (then_on o hs (λ p. repeat n next (paired p hs))).1 in
        let f = falls hs p e in
        subst R (sym e) (more e (ih p (omega (arith, f, few))))
