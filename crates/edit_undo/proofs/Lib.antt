pub mod UndoingLemmas
