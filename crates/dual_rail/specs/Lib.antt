pub mod Conduct
pub mod Variables
