-- What a call answered, told from its answer with another refusal.
use Rattle.std.proofs.Common.{◌≡◌, Ok, Err, Result, is_ok, sym, refl, ap, ◌∙◌}
use Rattle.std.proofs.lemmas.Bool.{false≢true}
use Rattle.std.specs.Result.{MatchResult}

module _ {T E D : Type 0} where
  pub ok_was : (Q : E → Type 0) (r : Result T E) (m : Result T D) (x : T) → MatchResult r (λ y. m ≡ Ok y) Q → is_ok m ≡ is_ok r → m ≡ Ok x → r ≡ Ok x
  ok_was Q (Ok y) m x cases same is = cc
  ok_was Q (Err e) m x cases same is = absurd (false≢true (sym same ∙ ap is_ok is))

  pub err_was : (r : Result T E) (m : Result T D) (fault : D) → is_ok m ≡ is_ok r → m ≡ Err fault → (e : E) × (r ≡ Err e)
  err_was (Ok y) m fault same is = absurd (false≢true (sym (ap is_ok is) ∙ same))
  err_was (Err e) m fault same is = (e, refl)
