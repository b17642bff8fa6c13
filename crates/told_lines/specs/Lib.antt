pub mod Lines
pub mod Hearing
pub mod Rows
pub mod Printing
pub mod Meeting
pub mod Noting
pub mod Sums
pub mod Laws
