-- The words of parts and their texts that clauses cite, from one place.
pub use Rattle.kept_parts.specs.Uses.{texts_used, some_texts, IsNumbered}
pub use Rattle.kept_parts.specs.Coded.{AreCoded}
pub use Rattle.group_text.specs.Words.{is_among, GroupTextData}
pub use Rattle.group_analysis.specs.Meaning.{MeansText}
pub use Rattle.analysis_cache.specs.Keeping.{texts_of}
pub use Rattle.circuit_texts.specs.Parts.{IsMadeOf}
