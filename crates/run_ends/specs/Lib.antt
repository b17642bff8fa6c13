pub mod Statuses
pub mod Stops
pub mod Causes
pub mod Answers
pub mod Ends
