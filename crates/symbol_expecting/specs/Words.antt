-- The words of the clauses, from one place.
pub use Rattle.switch_paths.specs.Switching.{state_at}
pub use Rattle.printed_lines.specs.Lines.{wanted_letter}
pub use Rattle.truth_makers.specs.Makers.{IsFunctionOf, IsSpent, function_holds}
pub use Rattle.truth_makers.specs.Expecting.{state_of_truth}
pub use Rattle.formula_functions.specs.Tables.{TableData}
pub use Rattle.session_meaning.specs.Effects.{is_met}
pub use Rattle.session_meaning.specs.Sessions.{HeldSession}
pub use Rattle.symbol_stage.specs.Stages.{StageData, states_in, columns_on}
pub use Rattle.symbol_meaning.specs.Merging.{AreToldOf, IsToldOf}
pub use Rattle.symbol_meaning.specs.Readings.{Valuations}
pub use Rattle.symbol_giving.specs.Giving.{data_of}
pub use Rattle.symbol_giving.specs.Letters.{AreGivenBy, IsTableOf, OnlyMakes, IsLetterOf, letter_in}
pub use Rattle.symbol_giving.specs.StandIns.{IsGiven}
