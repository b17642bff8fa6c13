-- The words of the texts of a circuit that clauses cite, from one place.
pub use Rattle.circuit_texts.specs.Sizes.{fault_in, at_node, refused_in, IsTooLarge, IsRefused, IsFirstRefused, IsFirstTooLarge, AllFit}
pub use Rattle.circuit_texts.specs.Sizes.{NoneRefused, TellsRefused, TellsTooLarge}
pub use Rattle.circuit_texts.specs.Told.{has_text, with_text, without_text, told}
pub use Rattle.circuit_texts.specs.Parts.{IsMadeOf}
pub use Rattle.circuit_texts.specs.Building.{HasTexts, Builds, Fills, IsCutOff}
pub use Rattle.circuit_texts.specs.Reading.{AreReads}
pub use Rattle.circuit_texts.specs.Choosing.{chosen}
