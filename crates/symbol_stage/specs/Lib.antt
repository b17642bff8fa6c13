pub mod Stages
pub mod Compacting
pub mod Given
pub mod Acts
pub mod Words
