pub mod Codes
pub mod Runs
pub mod FirstRefused
pub mod Shown
pub mod Turns
pub mod Halts
pub mod Ends
pub mod Laws
