pub mod Parity
pub mod Records
pub mod Searches
