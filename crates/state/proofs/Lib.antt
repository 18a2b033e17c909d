pub mod FirstFailed
pub mod Standing
pub mod Tables
pub mod KeptNets
pub mod NoneHeld
pub mod AnyOf
pub mod Checked
