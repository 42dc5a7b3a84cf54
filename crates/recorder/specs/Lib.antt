pub mod Recorders
pub mod Shown
