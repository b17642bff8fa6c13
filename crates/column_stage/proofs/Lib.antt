pub mod FrontLemmas
pub mod GivenLemmas
pub mod LeadingLemmas
pub mod SoundLemmas
pub mod StandingLemmas
