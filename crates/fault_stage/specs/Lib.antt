pub mod Stages
pub mod Passing
pub mod Runs
pub mod Building
pub mod Words
