-- The words of records that clauses cite, from one place.
pub use Rattle.good_run.specs.Recording.{RunData, count_apart, look_at, without_look, state_before, begins_at, IsEmpty}
pub use Rattle.good_run.specs.Looks.{NotesChanges, TakesNode}
pub use Rattle.good_run.specs.Laws.{rest_in}
