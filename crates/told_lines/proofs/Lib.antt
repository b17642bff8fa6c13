pub mod HearingLemmas
pub mod RowLemmas
pub mod PrintingLemmas
pub mod PartLemmas
pub mod MetLemmas
pub mod NotingLemmas
pub mod SumLemmas
