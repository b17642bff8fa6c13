pub mod Bytes
pub mod Formulas
pub mod Reading
pub mod Laws
