pub mod Keeping
pub mod Adding
pub mod Table
pub mod Cutting
pub mod Holding
pub mod Laws
pub mod Words
