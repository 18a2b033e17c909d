use Rattle.std.proofs.Common.{◌≡◌, List, take}
use Rattle.register.specs.Registers.{meaning}
use Rattle.rules.specs.Tally.{Opening}
use Rattle.rules.specs.Histories.{Entry, Stands}
use Rattle.state.specs.Seeing.{seen}
use Rattle.expiry.specs.Running.{calls_in, entered}
use Rattle.expiry.proofs.expiry.Expiry.run_all.Given as goal

-- it stands after the calls so far, no call was changed, and the registers have their memory
abbrev pub invariant-loop-entry : goal.invariant-loop-entry
invariant-loop-entry g l =
    ((o : Opening) (h : List Entry) → Stands o h (seen l.initial.self.state l.initial.lines (meaning g.S.Balances l.initial.securities) (meaning g.C.Balances l.initial.cash))
    → Stands o (entered (take l.entry-index l.entries) h) (seen l.self.state l.lines (meaning g.S.Balances l.securities) (meaning g.C.Balances l.cash)))
    × (calls_in l.entries ≡ calls_in l.initial.entries)
    × (g.S.Balances.lender l.securities ≡ g.S.Balances.lender l.initial.securities)
    × (g.C.Balances.lender l.cash ≡ g.C.Balances.lender l.initial.cash)
