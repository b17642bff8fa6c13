pub mod Faithful
pub mod Analysed
pub mod Words
