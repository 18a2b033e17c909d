-- Lines handed on one after the other: what is left to post does the rest.
use Rattle.std.proofs.Common.{◌≡◌, ℕ, List, ◌++◌, map, take, drop}
use Rattle.register.specs.Rules.{Meaning}
use Rattle.pairing.specs.declared.line.Line.{Line}
use Rattle.rules.specs.declared.side.Side.{Side}
use Rattle.rules.specs.Postings.{Posting, for_each, all_posted, NoneRefused}

-- The first i lines are handed on.
pub record Going (side : Side) (f : Line → List Posting) (g : Line → Line) (i : ℕ) (ls₀ : List Line) (m₀ : Meaning) (ls : List Line) (m : Meaning) : Type 0 where
  pub none_refused : NoneRefused side m (for_each f (drop i ls))
  pub posted : all_posted side m (for_each f (drop i ls)) ≡ all_posted side m₀ (for_each f ls₀)
  pub lines : take i ls ++ map g (drop i ls) ≡ map g ls₀
