-- What the ends of sessions leave of the state.
use Rattle.std.specs.Prelude.{ℕ, List, replicate, ℤ}
use Rattle.rules.specs.declared.session.Session.{Session}
use Rattle.rules.specs.declared.session.Session.TheVariants as session_of
use Rattle.state.specs.declared.state.State.{State}

-- Nothing held of agent 0, which is nobody's, nor of any of 64 agents.
abbrev pub none_held : List ℕ
none_held = replicate 65 0

-- In the session that follows, with no draw held.
abbrev pub without_draws : State → Session → State
without_draws e session = record { book = e.book; session = session; lots = e.lots; count = e.count; draws = none_held; nets = e.nets; claims = e.claims }

-- Closed, with each agent's claim.
abbrev pub with_claims : State → List ℤ → State
with_claims e claims = record { book = e.book; session = session_of.Closed; lots = e.lots; count = e.count; draws = e.draws; nets = e.nets; claims = claims }
