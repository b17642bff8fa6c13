pub mod Tern
pub mod Counts
pub mod Unmade
