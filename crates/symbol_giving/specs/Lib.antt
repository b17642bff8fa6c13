pub mod StandIns
pub mod Letters
pub mod Giving
pub mod Words
