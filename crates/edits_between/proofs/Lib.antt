pub mod LeadingLemmas
pub mod BuildsAgain
pub mod NotingLemmas
pub mod ReachingLemmas
