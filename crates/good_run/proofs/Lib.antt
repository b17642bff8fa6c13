pub mod AppliedLemmas
pub mod CountLemmas
pub mod LookLemmas
pub mod TakingLemmas
pub mod RecordLemmas
pub mod PassLemmas
pub mod GrowingLemmas
