-- The words of kept analyses that clauses cite, from one place.
pub use Rattle.analysis_cache.specs.Keeping.{Entry, entry_texts, texts_of, code_in, IsKept, IsGrown, KeepsAll, KeepsSome}
pub use Rattle.analysis_cache.specs.Adding.{AddsText, LacksText, FillsAll}
pub use Rattle.analysis_cache.specs.Cutting.{StartsWith}
pub use Rattle.analysis_cache.specs.Holding.{HoldsKept, HoldsNearlyKept}
