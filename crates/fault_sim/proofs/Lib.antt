pub mod ChangeLemmas
pub mod DifferenceLemmas
pub mod MaskLemmas
pub mod UniqueVerdicts
