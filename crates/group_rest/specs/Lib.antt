pub mod Rest
pub mod Alike
