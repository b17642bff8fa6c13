pub mod ItemLemmas
pub mod CommandLemmas
pub mod NameLemmas
pub mod SomeNames
