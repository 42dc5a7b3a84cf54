pub mod Parts
pub mod Arithmetic
pub mod Shifts
pub mod Branches
