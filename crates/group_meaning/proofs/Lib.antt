pub mod LinkLemmas
pub mod StoragePaths
pub mod GroupLemmas
pub mod AscendingLists
pub mod MappedLists
pub mod Labels
pub mod ExistingGroups
pub mod UniqueGroups
