pub mod Known
pub mod Dense
pub mod Waiting
pub mod Together
pub mod Workspaces
pub mod Small
