pub mod Recording
pub mod Looks
pub mod Laws
pub mod Keeping
pub mod Words
