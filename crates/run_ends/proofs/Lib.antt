pub mod EndLemmas
pub mod SizeLemmas
