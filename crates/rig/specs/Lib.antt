pub mod Rigs
pub mod Lines
