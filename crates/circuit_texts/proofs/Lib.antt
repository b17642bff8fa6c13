pub mod SizeLemmas
pub mod PairedLists
pub mod PartLemmas
pub mod MemberLemmas
mod ApartLemmas
pub mod ReadLemmas
pub mod ChosenLemmas
pub mod ToldLemmas
