pub mod KnownStates
pub mod SettlingLemmas
pub mod SettlingExists
pub mod UniqueSettling
pub mod PassingLemmas
pub mod PassesLemmas
pub mod SeenSoFar
pub mod NumbersLemmas
pub mod WholeSettling
pub mod RecallLemmas
pub mod RecurringLemmas
pub mod SeenRounds
mod MovesLemmas
