pub mod Differing
pub mod Running
pub mod Words
