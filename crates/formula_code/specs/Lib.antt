pub mod Linear
pub mod Places
pub mod Lowering
pub mod Words
