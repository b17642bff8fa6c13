mod UnfailingLemmas
mod SizeLemmas
mod SummedLemmas
mod HaltedLemmas
mod ReasonedLemmas
mod CoveredLemmas
pub mod UniqueAnswers
