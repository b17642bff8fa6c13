pub mod InTurn
pub mod Symbolic
pub mod Comparisons
pub mod Laws
