pub mod Ties
pub mod Stains
pub mod Bill
pub mod Protection
pub mod Plans
pub mod Alone
pub mod Unread
