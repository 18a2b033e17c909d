-- The pairs of all groups: they are no more than the holders, and name only their places.
use Rattle.std.proofs.Common.{ℕ, ◌<◌, ◌≤◌, List, [], ◌∷◌, length, arith}
use Rattle.std.specs.List.{AllByRecursion}
use Rattle.std.proofs.ByRecursion.{All-weaker}
use Rattle.pairing.specs.declared.pair.Unpaired.{Unpaired}
use Rattle.pairing.specs.declared.stage.Group.{Group}
use Rattle.pairing.specs.Pairing.{in_groups}
use Rattle.pairing.proofs.PairRelations.{Made, Sides}
use Rattle.pairing.proofs.PairLaws.{in_groups_holds, open_le}
use Rattle.pairing.proofs.FairPairs.{paired_made}
use Rattle.pairing.proofs.MadePairs.{made_count, made_sides}

unit_all : (gs : List Group) → AllByRecursion (λ g. Unit {0}) gs
unit_all [] = tt
unit_all (g ∷ gs) = (tt, unit_all gs)

module _ (gs : List Group) (hs : List Unpaired) where
  made : Made (λ g. Unit {0}) hs (in_groups gs hs).0 (in_groups gs hs).1
  made = paired_made (unit_all gs) (in_groups_holds gs hs)

  pub pairs_few : length (in_groups gs hs).0 ≤ length hs
  pairs_few = let c = made_count made in let o = open_le hs in omega (arith, c, o)

  pub pairs_near : (n : ℕ) → length hs ≤ n → AllByRecursion (λ p. (p.buyer < n) × (p.seller < n)) (in_groups gs hs).0
  pairs_near n h = All-weaker (Sides hs) (λ p. (p.buyer < n) × (p.seller < n)) (λ p s. (omega (arith, s.0, h), omega (arith, s.1, h))) (in_groups gs hs).0 (made_sides made)
