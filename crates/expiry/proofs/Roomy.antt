-- What opening checks after the book, and what a call promises where there is too little room and where there is enough.
use Rattle.std.proofs.Common.{◌≡◌, ℕ, suc, Bool, List, [], ◌∷◌, ◌++◌, map, length, Some, Err, arith}
use Rattle.rules.specs.declared.side.Side.TheVariants.{Securities, Cash}
use Rattle.rules.specs.declared.call.Call.{Call}
use Rattle.rules.specs.declared.fault.Part.{Part}
use Rattle.rules.specs.declared.fault.OpeningFault.{OpeningFault}
use Rattle.rules.specs.declared.fault.OpeningFault.TheVariants as opening
use Rattle.rules.specs.declared.fault.Fault.{Fault}
use Rattle.rules.specs.Tally.{Opening, cash_asset}
use Rattle.rules.specs.Verdict.{house_empty, room, too_small}
use Rattle.rules.specs.Histories.{Seen, GoesOn}
use Rattle.rules.proofs.WhereItStands.{room_stays}

-- ---- the checks of an opening

abbrev pub houses : Opening → List (Bool × OpeningFault)
houses o = (house_empty o.securities (length o.book.assets), opening.HouseHolds Securities) ∷ (house_empty o.cash (suc cash_asset), opening.HouseHolds Cash) ∷ []

-- the checks of an opening after the first
abbrev pub opening_rest : Opening → List (Bool × OpeningFault)
opening_rest o = map (λ (x : Bool × Part). (x.0, opening.TooSmall x.1)) (room o.book (length o.table) o.securities o.cash) ++ houses o

-- ---- what a call promises where there is too little room

pub small_goes : (n : Seen) (c : Call) (f : Fault) (then : Seen) → too_small n.book (length n.table) n.securities n.cash c ≡ Some f → GoesOn n c (Err f) then
small_goes n c f then small o h st = absurd (let none = room_stays o h n c st in let z : ◌≡◌ {A = ℕ} 0 1 = cc (small, none) in omega arith)
