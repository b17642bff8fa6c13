pub mod Together
pub mod Reaching
