pub mod Patterns
pub mod Ranges
pub mod Words
pub mod Vectors
pub mod Laws
