pub mod EndLemmas
pub mod NetLemmas
pub mod StartLemmas
pub mod WholeLemmas
pub mod FaultLemmas
pub mod CountLemmas
pub mod PurposeLemmas
mod TalkLemmas
mod DumpLemmas
mod AskedLemmas
mod OverLemmas
