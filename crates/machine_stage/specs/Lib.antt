pub mod Machines
pub mod Stages
pub mod Held
pub mod Laws
pub mod Words
