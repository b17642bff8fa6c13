pub mod Columns
pub mod Commands
pub mod Forms
pub mod Values
pub mod Laws
