pub mod Listing
pub mod Built
pub mod Moved
pub mod ListingText
pub mod Pieces
pub mod Reading
pub mod Adding
pub mod TextPlaces
