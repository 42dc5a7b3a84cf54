pub mod Seen
pub mod Decks
