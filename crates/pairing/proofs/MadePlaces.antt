-- A table made by a call for each place: what holds of every call holds of each place.
use Rattle.std.proofs.Common.{◌≡◌, ℕ, zero, suc, ◌+◌, ◌<◌, ◌≤◌, List, get_or, sym, subst, ⊎_elim, arith}
use Rattle.std.proofs.lemmas.Bool.{cases_eq}
use Rattle.std.specs.Fn.{Called}
use Rattle.std.specs.Array.{IsFromFnResultFrom, IsFromFnResult}
use denote.Param.Members.{Mut}

from_place : {F B : Type 0} (g : Mut F (ℕ × Unit {0}) B) (f : F) (ys : List B) (P : ℕ → B → Type 0) → ((k : ℕ) (y : B) (q : F) → Called g f (k, tt) y q → P k y × (q ≡ f))
    → (i n : ℕ) → IsFromFnResultFrom g f ys i n → (k : ℕ) (d : B) → i ≤ k → k < i + n → P k (get_or ys k d)
from_place g f ys P step i zero made k d low high = absurd (omega arith)
from_place {F} g f ys P step i (suc n) made k d low high =
    let here = step i made.1 made.0 made.3 in
    ⊎_elim
    (λ (e : k ≡ i). subst (λ (j : ℕ). P j (get_or ys j d)) (sym e) (subst (P i) (sym (made.2.1 d)) here.0))
    (λ (ne : k ≡ i → ⊥). from_place g f ys P step (i + 1) n (subst (λ (z : F). IsFromFnResultFrom g z ys (i + 1) n) here.1 made.4) k d (omega arith) (omega arith))
    (cases_eq k i)

pub made_at : {F B : Type 0} {g : Mut F (ℕ × Unit {0}) B} {f : F} {ys : List B} {n : ℕ} (P : ℕ → B → Type 0) → IsFromFnResult g f ys n
    → ((k : ℕ) (y : B) (q : F) → Called g f (k, tt) y q → P k y × (q ≡ f)) → (k : ℕ) (d : B) → k < n → P k (get_or ys k d)
made_at {F} {B} {g} {f} {ys} {n} P made step k d h = from_place g f ys P step 0 n made.each k d (omega arith) (omega arith)
