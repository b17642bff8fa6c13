pub mod ExpansionLemmas
pub mod FrameLemmas
pub mod LookupLemmas
pub mod PortsLemmas
pub mod ReaderLemmas
pub mod StepLemmas
pub mod VisibleLemmas
mod Worked
