pub mod Lists
pub mod Traces
pub mod Judging
pub mod Counts
pub mod Runnings
pub mod Laws
pub mod Early
