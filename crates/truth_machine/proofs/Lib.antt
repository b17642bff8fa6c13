pub mod MovingLemmas
pub mod PlacingLemmas
mod MakingLemmas
mod MakerLemmas
mod GearLemmas
