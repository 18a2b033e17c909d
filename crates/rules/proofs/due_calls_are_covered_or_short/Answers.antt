use Rattle.rules.proofs.OnlyShort.{only_short}
use Rattle.rules.proofs.due_calls_are_covered_or_short.Goals as goal

pub returns : goal.returns
returns c = record { short_is_the_only_refusal = only_short }
