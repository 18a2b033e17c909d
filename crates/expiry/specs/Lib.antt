pub mod Opened
pub mod Running
pub use Rattle.state.specs.Seeing
pub use Rattle.state.specs.Calls
