use Rattle.rules.proofs.Bounds.{sums_in_range}
use Rattle.rules.proofs.sums_stay_in_range.Goals as goal

pub returns : goal.returns
returns c = record { no_sum_passes_its_range = sums_in_range }
