-- The words of the clauses, from one place.
pub use Rattle.script_lang.specs.Parts.{value_by}
pub use Rattle.node_values.specs.Givings.{states_given}
pub use Rattle.session_meaning.specs.Refusals.{refusal_of, nodes_named}
pub use Rattle.session_meaning.specs.Truths.{give_of, letters_in_column}
pub use Rattle.symbol_stage.specs.Given.{GivesLetters, letter_given}
pub use Rattle.symbol_stage.specs.Stages.{bound_in, columns_on}
pub use Rattle.symbol_stage.specs.Words.{nodes, truth_of, state_of_truth, IsSpent, KeepsGiven}
pub use Rattle.symbol_meaning.specs.Readings.{letter_under}
