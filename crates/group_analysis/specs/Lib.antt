pub mod Meaning
pub mod Held
pub mod Using
pub mod Words
