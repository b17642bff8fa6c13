pub mod LastRuns
pub mod Members
pub mod Noting
