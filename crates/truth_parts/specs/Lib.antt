pub mod Columns
pub mod Noting
pub mod Evaluating
pub mod Stepping
pub mod Fitting
pub mod Words
