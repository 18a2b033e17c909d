-- A register's answer, with its side where it refused.
use Rattle.std.specs.Prelude.{Ok, Err, Result}
use Rattle.register.specs.Rules.{Answer}
use Rattle.rules.specs.declared.side.Side.{Side}
use Rattle.delivery.specs.declared.fault.SideFault.{SideFault}

abbrev pub on_side : Side → Answer → Result (Unit {0}) SideFault
on_side side (Ok done) = Ok tt
on_side side (Err fault) = Err (record { side = side; fault = fault })
