-- The first of checks that fails, one check further; and the answer that it decides.
use Rattle.std.proofs.Common.{◌≡◌, ℕ, Bool, true, false, List, [], ◌∷◌, Some, None, Ok, Err, Option, Result, refl, arith}
use Rattle.std.proofs.lemmas.Bool.{false≢true}
use Rattle.rules.specs.declared.call.Call.{Call}
use Rattle.rules.specs.declared.answer.Answer.{Answer}
use Rattle.rules.specs.declared.fault.Cause.{Cause}
use Rattle.rules.specs.declared.fault.Fault.{Fault}
use Rattle.rules.specs.Verdict.{Check, decide, first_failed}

pub passes : {E : Type 0} (p : Bool) (e : E) (rest : List (Bool × E)) → p ≡ true → first_failed ((p, e) ∷ rest) ≡ first_failed rest
passes true e rest h = refl
passes false e rest h = absurd (false≢true h)

pub fails : {E : Type 0} (p : Bool) (e : E) (rest : List (Bool × E)) → p ≡ false → first_failed ((p, e) ∷ rest) ≡ Some e
fails true e rest h = absurd (let z : ◌≡◌ {A = ℕ} 0 1 = cc in omega arith)
fails false e rest h = refl

-- the answer by what failed
abbrev pub by_check : Option Cause → Call → Answer → Result Answer Fault
by_check None c a = Ok a
by_check (Some cause) c a = Err (record { cause = cause; call = c })

pub decided : (cs : List Check) (c : Call) (a : Answer) → decide cs c a ≡ by_check (first_failed cs) c a
decided [] c a = refl
decided ((true, x) ∷ cs) c a = decided cs c a
decided ((false, x) ∷ cs) c a = refl
