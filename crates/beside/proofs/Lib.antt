pub mod BesideSteps
pub mod BesideFits
pub mod PhaseLemmas
pub mod StartLemmas
pub mod PlacingLemmas
pub mod ReturningLemmas
