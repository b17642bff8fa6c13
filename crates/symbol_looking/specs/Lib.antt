pub mod Letters
pub mod Tellings
pub mod Waves
pub mod Names
pub mod Words
