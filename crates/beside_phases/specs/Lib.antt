pub mod Recorded
pub mod Counting
pub mod Placing
pub mod Words
