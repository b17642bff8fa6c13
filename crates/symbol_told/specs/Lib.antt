pub mod Lines
pub mod Valuations
pub mod Printing
pub mod Noting
pub mod Differences
pub mod Texts
pub mod Laws
pub mod Words
