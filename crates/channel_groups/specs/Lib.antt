pub mod Listing
pub mod Flood
pub mod Changes
pub mod Grouping
pub mod Search
pub mod Writing
pub mod Laws
