pub mod WideCases
pub mod ConfinedLemmas
pub mod HoldingLemmas
pub mod StayingLemmas
