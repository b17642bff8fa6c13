pub mod Code
pub mod Parts
pub mod Flat
pub mod Words
