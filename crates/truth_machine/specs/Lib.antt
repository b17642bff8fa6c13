pub mod Machines
pub mod Moving
pub mod Symbols
pub mod Gears
pub mod Keeping
pub mod Words
