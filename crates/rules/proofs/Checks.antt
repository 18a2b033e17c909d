-- An accepted call passed all its checks; and what a test that none passes says of each.
use Rattle.std.proofs.Common.{◌≡◌, Bool, true, false, List, [], ◌∷◌, is_ok, refl}
use Rattle.std.specs.List.{AllByRecursion}
use Rattle.std.proofs.lemmas.Bool.{false≢true, or_parts}
use Rattle.order.specs.First.{any}
use Rattle.rules.specs.declared.call.Call.{Call}
use Rattle.rules.specs.declared.answer.Answer.{Answer}
use Rattle.rules.specs.Verdict.{Check, decide}

pub ok_checks : (cs : List Check) (c : Call) (a : Answer) → is_ok (decide cs c a) ≡ true → AllByRecursion (λ (x : Check). x.0 ≡ true) cs
ok_checks [] c a e = tt
ok_checks ((true, cause) ∷ rest) c a e = (refl, ok_checks rest c a e)
ok_checks ((false, cause) ∷ rest) c a e = absurd (false≢true e)

pub not_any : {X : Type 0} (p : X → Bool) (P : X → Type 0) → ((x : X) → p x ≡ false → P x) → (xs : List X) → any p xs ≡ false → AllByRecursion P xs
not_any p P f [] e = tt
not_any p P f (x ∷ xs) e = let q = or_parts (p x) (any p xs) e in (f x q.0, not_any p P f xs q.1)
