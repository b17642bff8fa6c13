pub mod Talks
pub mod Conversing
pub mod LineTalks
pub mod MemTalks
pub mod Laws
