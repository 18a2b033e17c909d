use Rattle.rules.proofs.ExampleOpens.{example_opens}
use Rattle.rules.proofs.Forward.{days_are_histories}
use Rattle.rules.proofs.Begins.{opened_stands, any_calls_stand}
use Rattle.rules.proofs.law_is_not_hollow.Goals as goal

pub returns : goal.returns
returns c = record { the_example_opens = example_opens; what_was_opened_stands = opened_stands; stands_after_any_calls = any_calls_stand; computed_days_are_histories = days_are_histories }
