pub mod ValueLemmas
pub mod GateLemmas
pub mod ReachLemmas
pub mod MadeLemmas
pub mod WithinLemmas
pub mod WindowLemmas
pub mod CollectLemmas
pub mod CopyLemmas
