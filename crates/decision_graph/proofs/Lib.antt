pub mod ValueLemmas
pub mod VertexLemmas
pub mod NoteLemmas
pub mod CanonLemmas
pub mod CombineLemmas
pub mod AgreeLemmas
pub mod MovingLemmas
