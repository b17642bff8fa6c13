mod GroupsLemmas
mod LintLemmas
mod ListLemmas
mod PieceLemmas
pub mod UniqueAnswers
