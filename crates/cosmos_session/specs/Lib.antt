pub mod Keeping
pub mod Showing
pub mod Targets
pub mod Words
