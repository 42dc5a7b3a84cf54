pub mod Sums
pub mod Closed
pub mod Division
pub mod Signs
