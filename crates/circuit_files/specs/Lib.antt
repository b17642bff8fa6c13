pub mod Starts
pub mod Wholes
pub mod Feeding
pub mod Words
