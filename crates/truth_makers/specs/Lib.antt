pub mod Valuations
pub mod Makers
pub mod Expecting
