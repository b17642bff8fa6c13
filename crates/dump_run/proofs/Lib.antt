pub mod SceneLemmas
pub mod CommandLemmas
pub mod TurnLemmas
pub mod OutcomeLemmas
pub mod RunLemmas
pub mod EndLemmas
pub mod UniqueDumps
pub mod RunDumps
