pub mod FirstLemmas
pub mod ComparingLemmas
