pub mod Columns
pub mod Decks
pub mod Samples
pub mod Requests
pub mod Talks
pub mod Symbols
