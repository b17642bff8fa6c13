pub mod Stages
pub mod Acts
pub mod Moving
pub mod Laws
pub mod Words
