pub mod Uses
pub mod Coded
pub mod Words
