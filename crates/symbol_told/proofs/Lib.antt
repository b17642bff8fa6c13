pub mod ValuationLemmas
pub mod PrintingLemmas
pub mod NotingLemmas
