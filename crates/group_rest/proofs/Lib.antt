pub mod ReadNodes
pub mod RestingGroups
pub mod AlikeGroups
