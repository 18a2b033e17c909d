use Rattle.std.proofs.Common.{◌≡◌, ℕ, ℤ, pos, arith, rules}
use Rattle.book.specs.Data.{contents}
use Rattle.pairing.specs.Lines.{sumℤ, claim_on}
use Rattle.delivery.specs.Sums.{ClaimsFit}
use Rattle.pairing.proofs.MadePlaces.{made_at}
use Rattle.delivery.proofs.sums.claims.Goals as goal

pub returns : goal.returns
returns c =
    let P : ℕ → ℤ → Type 0 = λ k x. ClaimsFit (contents c.args.book.now) c.args.lines.now k → x ≡ sumℤ (claim_on (contents c.args.book.now) k) c.args.lines.now in
    record { each_claim = λ k small fit. made_at P c.from_fn.ensures.items (λ j y q call. search rules) k (pos 0) (omega arith) fit }
