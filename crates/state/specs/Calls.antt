-- The calls by their names, for contracts that have no such value in the code.
use Rattle.std.specs.Prelude.{ℕ}
use Rattle.rules.specs.declared.call.Call.{Call}
use Rattle.rules.specs.declared.call.Call.TheVariants as call
use Rattle.rules.specs.declared.side.Side.{Side}
use Rattle.rules.specs.declared.speaker.Speaker.{Speaker}

abbrev pub notice_call : Speaker → ℕ → ℕ → ℕ → ℕ → Call
notice_call speaker member number asset contracts = call.Notice speaker member number asset contracts

abbrev pub end_call : Call
end_call = call.End

abbrev pub pair_call : Call
pair_call = call.Pair

abbrev pub credit_call : Side → ℕ → ℕ → ℕ → Call
credit_call side account asset amount = call.Credit side account asset amount

abbrev pub take_call : ℕ → ℕ → ℕ → Call
take_call member number asset = call.Take member number asset

abbrev pub draw_call : ℕ → Call
draw_call agent = call.Draw agent

abbrev pub whole_call : Call
whole_call = call.SettleWhole

abbrev pub line_call : ℕ → Call
line_call line = call.SettleLine line

abbrev pub close_call : Call
close_call = call.Close
