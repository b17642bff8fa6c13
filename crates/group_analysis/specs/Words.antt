-- The words of analyses that clauses cite, from one place.
pub use Rattle.group_analysis.specs.Meaning.{switch_count, bound_of, MeansText}
pub use Rattle.group_analysis.specs.Held.{set_of, without_texts}
pub use Rattle.group_analysis.specs.Using.{used_texts, room_for, within, past, kept_after, cut_after, to_front}
