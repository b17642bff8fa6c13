pub mod Answers
pub mod Halts
pub mod Serving
pub mod Turns
pub mod Words
