pub mod RecordedLemmas
pub mod CountingLemmas
pub mod WorkLemmas
pub mod FollowingLemmas
pub mod PlacingBoth
