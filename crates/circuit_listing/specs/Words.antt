-- The words of the clauses, from one place.
pub use Rattle.circuit_texts.specs.Sizes.{AllFit, TellsTooLarge}
pub use Rattle.circuit_listing.specs.Analysed.{AnalysesFront}
pub use Rattle.netlist.specs.Circuits.{called, HasVisibleNames}
pub use Rattle.circuit_listing.specs.Faithful.{IsFaithful}
pub use Rattle.group_meaning.specs.Groups.{AreGroups, Group}
pub use Rattle.group_text.specs.FirstTexts.{first_texts}
pub use Rattle.group_text.specs.Texts.{text_of_group}
pub use Rattle.switch_paths.specs.Graphs.{nodes}
