pub mod SendingLemmas
pub mod CountLemmas
pub mod HonestLemmas
pub mod TakenLemmas
pub mod ResultLemmas
