pub mod Sharing
pub mod Waves
pub mod Words
pub mod Notes
pub mod Lines
pub mod Runs
pub mod Ends
pub mod Clauses
