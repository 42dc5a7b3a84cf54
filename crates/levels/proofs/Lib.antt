pub mod Due
pub mod Walks
