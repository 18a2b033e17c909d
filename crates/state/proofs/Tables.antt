-- The lines made, in the first places of a table.
use Rattle.std.proofs.Common.{◌≡◌, ℕ, min, List, ◌++◌, length, take, drop, Result, sym, ap, ◌∙◌, subst, arith}
use Rattle.std.proofs.lemmas.List.{take_at, drop_at, take-append-drop, length-take}
use Rattle.register.specs.Rules.{Meaning}
use Rattle.pairing.specs.declared.line.Line.{Line}
use Rattle.rules.specs.declared.call.Call.{Call}
use Rattle.rules.specs.declared.answer.Answer.{Answer}
use Rattle.rules.specs.declared.fault.Cause.{Cause}
use Rattle.rules.specs.Tally.{Opening}
use Rattle.rules.specs.Histories.{Entry, tally_of, over, Stands}
use Rattle.state.specs.declared.state.State.{State}
use Rattle.state.specs.Seeing.{seen}
use Rattle.state.specs.Following.{Follows}
use Rattle.state.proofs.Standing as standing
use Rattle.state.specs.Making.{FollowsOnMade}

module _ (o : Opening) (h : List Entry) (e : State) (made rest : List Line) (s m : Meaning) (st : Stands o h (seen e (made ++ rest) s m)) (many : e.count ≡ length made) where
  pub made_are : made ≡ (tally_of o h).lines
  made_are = sym (take_at made rest e.count (sym many)) ∙ standing.made_lines o h (seen e (made ++ rest) s m) st

  -- as many lines in their places, and later places as they were
  pub made_after : (ls : List Line) → length ls ≡ length (tally_of o h).lines → ls ++ rest ≡ over ls o.table
  made_after ls p =
      ap (λ (x : List Line). ls ++ x) (sym (drop_at made rest e.count (sym many))) ∙ standing.made_over o h (seen e (made ++ rest) s m) st ls p

-- What holds with the lines made holds with the table.
pub on_table : (e e' : State) (lines made' : List Line) (s s' m m' : Meaning) (c : Call) (r : Result Answer Cause) (n : ℕ) → n ≡ min e.count (length lines)
    → FollowsOnMade e e' (take n lines) made' s s' m m' c r → Follows (seen e lines s m) c r (seen e' (made' ++ drop n lines) s' m')
on_table e e' lines made' s s' m m' c r n p f o h st now' =
    f (drop n lines) many o h (subst (λ (x : List Line). Stands o h (seen e x s m)) (sym (take-append-drop n lines)) st) now'
  where
    many : e.count ≡ length (take n lines)
    many = let fit = standing.made_fit o h (seen e lines s m) st in let l = length-take n lines in omega (arith, p, fit, l)

-- The same where the lines stay.
pub on_table_read : (e e' : State) (lines : List Line) (s s' m m' : Meaning) (c : Call) (r : Result Answer Cause) (n : ℕ) → n ≡ min e.count (length lines)
    → FollowsOnMade e e' (take n lines) (take n lines) s s' m m' c r → Follows (seen e lines s m) c r (seen e' lines s' m')
on_table_read e e' lines s s' m m' c r n p f =
    subst (λ (x : List Line). Follows (seen e lines s m) c r (seen e' x s' m')) (take-append-drop n lines) (on_table e e' lines (take n lines) s s' m m' c r n p f)
