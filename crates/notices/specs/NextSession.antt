-- The state in the session that follows: after the end of the notices, and after pairing.
use Rattle.std.specs.Prelude.{ℕ, List, ℤ}
use Rattle.rules.specs.declared.session.Session.TheVariants.{Pairing, WholeDelivery}
use Rattle.state.specs.declared.state.State.{State}

-- The notices ended, with the records as they stand.
abbrev pub notices_ended : State → State
notices_ended e = record
    { book = e.book; session = Pairing; lots = e.lots; count = e.count; draws = e.draws; nets = e.nets; claims = e.claims }

-- The book paired into so many lines, with the net of each agent.
abbrev pub book_paired : State → ℕ → List ℤ → State
book_paired e count nets = record
    { book = e.book; session = WholeDelivery; lots = e.lots; count = count; draws = e.draws; nets = nets; claims = e.claims }
