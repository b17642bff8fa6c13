pub mod Fitting
pub mod Laws
pub mod Phases
pub mod Returning
