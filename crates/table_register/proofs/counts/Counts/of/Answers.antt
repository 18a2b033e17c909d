use Rattle.std.proofs.Common.{refl, arith}
use Rattle.register.proofs.Meanings.{same_meaning}
use Rattle.table_register.proofs.Makes.{made_shape, made_covered, made_bounded, made_issues}
use Rattle.table_register.proofs.counts.Counts.of.Goals as goal

pub invariant_of-result : goal.invariant_of-result
invariant_of-result c =
    let cells = c.args.cells.now in
    let n = c.args.accounts in
    let m = c.args.assets in
    let shape = made_shape cells n m c.requires.accepted in
    record {
      few_accounts = shape.1.0;
      few_assets = shape.1.1.1.0;
      bounded = made_bounded cells n m c.requires.accepted c.args.issues c.requires.counted;
    }

pub returns : goal.returns
returns c =
    let cells = c.args.cells.now in
    let n = c.args.accounts in
    let m = c.args.assets in
    let shape = made_shape cells n m c.requires.accepted in
    record {
      means = same_meaning _ _ refl refl (λ a s. refl) (made_issues cells n m c.requires.accepted c.args.issues c.requires.counted);
      size = omega (arith, shape.1.1.1.1);
      covered = made_covered cells n m c.requires.accepted c.args.issues c.requires.counted;
    }
