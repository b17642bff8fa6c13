pub mod Scripts
pub mod Readings
pub mod Told
pub mod Merging
pub mod Runs
pub mod Comparing
pub mod Laws
