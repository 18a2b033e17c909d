use Rattle.std.proofs.Common.{◌∙◌}
use Rattle.pairing.specs.Lines.{of_seller, open_on}
use Rattle.delivery.specs.Widths.{most_32}
use Rattle.delivery.proofs.SaturatedSums.{saturated}
use Rattle.delivery.proofs.taking.outstanding.Goals as goal

pub returns : goal.returns
returns c = record { all_that_are_open = c.open_in.ensures ∙ saturated most_32 (of_seller c.args.row c.args.asset) open_on c.args.lines.now }
