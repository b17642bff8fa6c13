pub mod ResultLemmas
pub mod RunLemmas
pub mod FlatLemmas
pub mod RunMappedLemmas
