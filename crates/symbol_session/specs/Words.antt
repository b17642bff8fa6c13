-- The words of the clauses, from one place.
pub use Rattle.switch_paths.specs.Graphs.{nodes}
pub use Rattle.script_lang.specs.Forms.{IsFormed, IsFormedSetup}
pub use Rattle.column_script.specs.Commands.{IsSharedSetup}
pub use Rattle.symbol_lines.specs.Names.{has_name}
pub use Rattle.group_text.specs.Texts.{GroupTextData}
pub use Rattle.formula_functions.specs.Tables.{value_named, with_named, no_table}
pub use Rattle.formula_functions.specs.Truths.{truth_of}
pub use Rattle.truth_makers.specs.Makers.{columns_in, function_holds, IsFunctionOf}
pub use Rattle.truth_machine.specs.Symbols.{MakesMore}
pub use Rattle.session_meaning.specs.Columns.{BeatInAll, StepInAll}
pub use Rattle.session_meaning.specs.Effects.{IsPhase, IsUnitStep, places_in, assigned, told_by}
pub use Rattle.session_meaning.specs.Refusals.{refusal_of_run, refusal_of_tell}
pub use Rattle.session_meaning.specs.Sessions.{places_of, start_of}
pub use Rattle.session_meaning.specs.Sinks.{faults_applied}
pub use Rattle.session_meaning.specs.Truths.{SettledTogether, letters_in_column}
pub use Rattle.script_meaning.specs.Codes.{script_code}
pub use Rattle.symbol_stage.specs.Given.{GivesLetters, letter_given}
pub use Rattle.symbol_stage.specs.Stages.{columns_on, FitsIn}
pub use Rattle.symbol_meaning.specs.Merging.{AreMerged}
pub use Rattle.symbol_meaning.specs.Scripts.{before_stop, read_of, stop_of, variables_of}
pub use Rattle.symbol_meaning.specs.Readings.{valuations_of, Valuations}
pub use Rattle.symbol_looking.specs.Tellings.{HearsSome, RefusedTelling, TellsInAll, tellings}
pub use Rattle.symbol_looking.specs.Waves.{AreCounted, wave_of}
pub use Rattle.symbol_run.specs.Halts.{StopsAmong}
pub use Rattle.symbol_run.specs.Turns.{faults_stopped, RefusedStopped, StopsAt, TakesTurnInAll}
pub use Rattle.symbol_giving.specs.Letters.{IsTableOf, OnlyMakes}
pub use Rattle.symbol_giving.specs.StandIns.{IsGiven}
pub use Rattle.symbol_expecting.specs.Expecting.{AreMeantBy, ExpectsInAll}
pub use Rattle.symbol_expecting.specs.Faults.{RefusedExpected, faults_expected}
pub use Rattle.symbol_expecting.specs.Missing.{AreWantedOf}
pub use Rattle.symbol_equiv.specs.Sharing.{KeepsFunctions, StandFor}
pub use Rattle.symbol_equiv.specs.Waves.{AreRailed, TakesTurnRailed}
