pub mod Expansions
pub mod Frames
pub mod Lookups
pub mod Making
pub mod Ports
pub mod Scopes
pub mod Steps
