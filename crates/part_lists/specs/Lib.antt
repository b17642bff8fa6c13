pub mod Listing
pub mod Growing
