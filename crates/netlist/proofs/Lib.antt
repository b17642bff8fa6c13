pub mod EditLemmas
pub mod KeptLemmas
pub mod NameLemmas
pub mod NamingLemmas
pub mod NetlistLemmas
pub mod RemovalLemmas
