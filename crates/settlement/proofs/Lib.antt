pub mod AgentsPast
pub mod WholeSettled
pub mod LineSettled
pub mod ClosedOut
