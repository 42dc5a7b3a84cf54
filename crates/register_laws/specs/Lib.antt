pub mod Laws
pub mod ShiftLaws
