pub mod Codes
pub mod Answers
pub mod Sendings
pub mod Alike
