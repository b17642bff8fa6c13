pub mod TalkLemmas
pub mod LineTalkLemmas
pub mod KeptLemmas
