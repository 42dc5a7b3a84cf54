pub mod Entering
pub mod Opened
pub mod ByHand
