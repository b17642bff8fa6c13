pub mod Truths
pub mod Tables
pub mod Waiting
