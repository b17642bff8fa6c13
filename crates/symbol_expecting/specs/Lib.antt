pub mod Faults
pub mod Missing
pub mod Telling
pub mod Expecting
pub mod Words
