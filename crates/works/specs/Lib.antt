pub mod Faults
pub mod Channels
