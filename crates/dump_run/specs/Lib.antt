pub mod Dumped
pub mod Turns
pub mod Laws
pub mod Words
