pub mod Spare
pub mod Promised
