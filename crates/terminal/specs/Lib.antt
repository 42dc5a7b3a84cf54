pub mod Setups
pub mod Terminals
pub mod Shown
