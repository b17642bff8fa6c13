mod UniqueAnswers
mod SymbolLemmas
mod UniqueComparisons
mod SymbolicAnswers
