pub mod Benches
pub mod Changes
pub mod Faults
pub mod Masks
pub mod Traces
pub mod Words
