pub mod Faults
pub mod LineBuf
pub mod Lines
pub mod Looks
pub mod Verdicts
