pub mod FrontLemmas
pub mod HeldLemmas
pub mod KnownLemmas
pub mod BuildingLemmas
pub mod CourseLemmas
pub mod PassingLemmas
pub mod LeadingLemmas
pub mod StayingLemmas
