pub mod Summaries
pub mod Reasoned
pub mod Explaining
pub mod Covered
pub mod Covering
pub mod Answers
pub mod Words
