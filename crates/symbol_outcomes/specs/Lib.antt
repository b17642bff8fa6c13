pub mod Families
pub mod Shapes
pub mod Outcomes
pub mod Laws
