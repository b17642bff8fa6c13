pub mod Agreeing
pub mod Beside
pub mod Replacing
pub mod Following
pub mod Near
pub mod Noticing
pub mod Stepping
pub mod Words
