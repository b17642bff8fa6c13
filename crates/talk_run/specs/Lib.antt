pub mod Telling
pub mod Asking
pub mod Answers
pub mod Talking
pub mod Words
