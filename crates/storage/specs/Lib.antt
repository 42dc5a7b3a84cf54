pub mod Word
pub mod Memory
pub mod Image
pub mod Survey
