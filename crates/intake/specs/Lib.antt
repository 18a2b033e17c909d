pub mod Crediting
pub mod Taking
