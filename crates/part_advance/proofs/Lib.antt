pub mod AdvanceLemmas
pub mod NextChange
