-- The numbers by which sessions and refusals are told.
use Rattle.std.specs.Prelude.{ℕ}
use Rattle.register.specs.Faults as register
use Rattle.rules.specs.declared.session.Session.{Session}
use Rattle.rules.specs.declared.session.Session.TheVariants.{MembersNotices, ClearingNotices, Pairing, WholeDelivery, PartialDelivery, Closed}
use Rattle.rules.specs.declared.fault.Cause.{Cause}
use Rattle.rules.specs.declared.fault.Cause.TheVariants.{WrongSession, NotItsSeller, NoSuchSeller, NoSuchAsset, BadContracts, NothingDue, NotAllIn, TooSmall, HouseCredit, Register}
use Rattle.rules.specs.declared.fault.OpeningFault.{OpeningFault}
use Rattle.rules.specs.declared.fault.OpeningFault.TheVariants as opening

abbrev pub session_number : Session → ℕ
session_number MembersNotices = 1
session_number ClearingNotices = 2
session_number Pairing = 3
session_number WholeDelivery = 4
session_number PartialDelivery = 5
session_number Closed = 6

-- Of a refused call. What a register refused keeps the register's own number.
abbrev pub number : Cause → ℕ
number WrongSession = 8
number NotItsSeller = 9
number NoSuchSeller = 10
number NoSuchAsset = 11
number BadContracts = 12
number NothingDue = 13
number NotAllIn = 14
number (TooSmall what) = 15
number HouseCredit = 17
number (Register side fault) = register.number fault

-- Of a refused opening.
abbrev pub opening_number : OpeningFault → ℕ
opening_number opening.EmptyBook = 6
opening_number (opening.TooSmall what) = 15
opening_number (opening.HouseHolds side) = 16
