-- The words of the clauses, from one place.
pub use Rattle.switch_paths.specs.Graphs.{nodes, GraphData}
pub use Rattle.switch_paths.specs.Rails.{IsSound, IsRailed}
pub use Rattle.switch_paths.specs.Step.{IsStep}
pub use Rattle.channel_groups.specs.Grouping.{AreOf}
pub use Rattle.group_text.specs.FirstTexts.{first_texts}
pub use Rattle.group_text.specs.Texts.{GroupTextData}
pub use Rattle.settling.specs.Passing.{SteppingThrough}
pub use Rattle.group_analysis.specs.Using.{used_texts}
pub use Rattle.circuit_texts.specs.Building.{IsCutOff, HasTexts}
pub use Rattle.analysis_cache.specs.Keeping.{texts_of}
pub use Rattle.column_stage.specs.Columns.{AreAmong, IsSoundState, letter_in, with_new_nodes}
pub use Rattle.circuit_texts.specs.Sizes.{TellsRefused}
pub use Rattle.column_stage.specs.Edits.{IsUndone}
pub use Rattle.column_stage.specs.Seeing.{SeesStates}
pub use Rattle.machine_laws.specs.Fitting.{FitsGraph, Covers}
pub use Rattle.machine_laws.specs.Machines.{KeepsBuild, KeepsParts}
pub use Rattle.edits_between.specs.Leading.{DifferAt, IsAsLarge, LedBy, last_in}
pub use Rattle.good_phases.specs.Phases.{BeginsGood, GoodData, IsBeat, SettlesGood}
pub use Rattle.beside_run.specs.Running.{HasLater, IsRunBeside, SettlesRun}
