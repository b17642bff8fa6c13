pub mod Draws
pub mod Lines
pub mod Inverters
pub mod Passes
pub mod Columns
pub mod Families
