pub mod Scanners
pub mod Shown
