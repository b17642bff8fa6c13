pub mod Reasons
pub mod Search
pub mod Lines
pub mod Near
pub mod Words
