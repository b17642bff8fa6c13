pub mod ResponseLemmas
