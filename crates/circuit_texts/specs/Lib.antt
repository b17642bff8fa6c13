pub mod Sizes
pub mod Told
pub mod Parts
pub mod Building
pub mod Reading
pub mod Choosing
pub mod Words
