pub mod Names
pub mod Naming
pub mod Circuits
pub mod Faults
pub mod Edits
pub mod Laws
pub mod Words
