pub mod GoodLemmas
