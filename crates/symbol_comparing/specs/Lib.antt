pub mod Rails
pub mod Notes
pub mod Words
pub mod Workspaces
pub mod Told
