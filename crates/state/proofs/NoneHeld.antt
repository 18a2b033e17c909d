-- Where no draws are held there is none of any agent.
use Rattle.std.proofs.Common.{◌≡◌, ℕ, zero, suc, get_or, replicate, refl}
use Rattle.state.specs.Leaving.{none_held}

none_in : (n agent : ℕ) → ◌≡◌ {A = ℕ} (get_or (replicate n 0) agent 0) 0
none_in zero agent = refl
none_in (suc n) zero = refl
none_in (suc n) (suc agent) = none_in n agent

pub none_of : (agent : ℕ) → get_or none_held agent 0 ≡ 0
none_of agent = none_in 65 agent
