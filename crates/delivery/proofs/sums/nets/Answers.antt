use Rattle.std.proofs.Common.{◌≡◌, ℕ, ℤ, pos, arith, rules}
use Rattle.book.specs.Data.{contents}
use Rattle.pairing.specs.Lines.{net}
use Rattle.delivery.specs.Sums.{ValuesFit}
use Rattle.pairing.proofs.MadePlaces.{made_at}
use Rattle.delivery.proofs.sums.nets.Goals as goal

pub returns : goal.returns
returns c =
    let P : ℕ → ℤ → Type 0 = λ k x. ValuesFit (contents c.args.book.now) c.args.lines.now k → x ≡ net (contents c.args.book.now) c.args.lines.now k in
    record { each_net = λ k small fit. made_at P c.from_fn.ensures.items (λ j y q call. search rules) k (pos 0) (omega arith) fit }
