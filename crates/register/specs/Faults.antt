-- The numbers by which the refusals of a register are told.
use Rattle.std.specs.Prelude.{ℕ}
use Rattle.register.specs.declared.fault.RegisterFault.{RegisterFault}
use Rattle.register.specs.declared.fault.RegisterFault.TheVariants.{UnknownAccount, UnknownAsset, SameAccount, ZeroAmount, Short, OverIssue}
use Rattle.register.specs.declared.fault.MakeFault.{MakeFault}
use Rattle.register.specs.declared.fault.MakeFault.TheVariants.{BadShape, TooMuch}

-- Of a credit or a move.
abbrev pub number : RegisterFault → ℕ
number UnknownAccount = 20
number UnknownAsset = 21
number SameAccount = 22
number ZeroAmount = 23
number Short = 24
number OverIssue = 25

-- Of making a register.
abbrev pub make_number : MakeFault → ℕ
make_number BadShape = 15
make_number TooMuch = 25
