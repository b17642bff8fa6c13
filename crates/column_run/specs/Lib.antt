pub mod ColumnAnswers
pub mod Turns
pub mod Laws
