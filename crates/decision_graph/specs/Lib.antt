pub mod Vertices
pub mod Meaning
pub mod Making
pub mod Graphs
pub mod Moving
