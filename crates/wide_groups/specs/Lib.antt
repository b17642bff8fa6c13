pub mod Moving
pub mod Awake
pub mod Confined
pub mod Holding
pub mod Staying
