use Rattle.std.proofs.Common.{◌≡◌, ℕ, arith, rules}
use Rattle.book.specs.Data.{contents}
use Rattle.delivery.specs.Sums.{ValuesFit}
use Rattle.delivery.specs.Whole.{net_above}
use Rattle.pairing.proofs.MadePlaces.{made_at}
use Rattle.delivery.proofs.sums.credits.Goals as goal

pub returns : goal.returns
returns c =
    let P : ℕ → ℕ → Type 0 = λ k x. ValuesFit (contents c.args.book.now) c.args.lines.now k → x ≡ net_above (contents c.args.book.now) c.args.lines.now k in
    record { each_net_above_0 = λ k small fit. made_at P c.from_fn.ensures.items (λ j y q call. search rules) k 0 (omega arith) fit }
