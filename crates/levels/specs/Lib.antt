pub mod Choice
pub mod Standing
pub mod Interrupts
pub mod Laws
