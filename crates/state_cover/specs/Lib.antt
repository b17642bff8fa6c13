pub mod Cover
pub mod Laws
pub mod Lines
