pub mod FaultLemmas
pub mod StateLemmas
pub mod RailLemmas
pub mod WordLemmas
pub mod CompareLemmas
pub mod LoopLemmas
