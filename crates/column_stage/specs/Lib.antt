pub mod Acts
pub mod Columns
pub mod Edits
pub mod Moving
pub mod Seeing
pub mod Standing
pub mod Truths
pub mod Words
