pub mod Report
pub mod Noted
pub mod Words
