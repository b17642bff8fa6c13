pub mod CountLemmas
