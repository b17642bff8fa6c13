-- The words of the clauses, from one place.
pub use Rattle.column_stage.specs.Acts.{Leads}
pub use Rattle.column_stage.specs.Columns.{IsSoundState}
pub use Rattle.group_text.specs.Texts.{GroupTextData}
pub use Rattle.session_meaning.specs.Stages.{acts_of_states, GivesOn}
pub use Rattle.session_meaning.specs.Refusals.{refusal_of, values_refusal}
pub use Rattle.session_meaning.specs.Outcomes.{Quietly}
pub use Rattle.session_meaning.specs.Preparing.{IsFaultFor}
pub use Rattle.session_meaning.specs.Truths.{give_of}
pub use Rattle.switch_paths.specs.Graphs.{nodes, GraphData}
pub use Rattle.switch_paths.specs.Rails.{IsRailed, IsSound}
pub use Rattle.switch_paths.specs.Step.{IsStep}
pub use Rattle.switch_paths.specs.Switching.{state_at}
pub use Rattle.switch_paths.specs.declared.TheConstants.{RAILS}
pub use Rattle.netlist.specs.Circuits.{IsCircuit}
pub use Rattle.netlist.specs.Edits.{answer_of, with_input, with_place}
pub use Rattle.script_lang.specs.Forms.{IsFormedRun, AreBeats, IsFormedSetup, IsTimes}
pub use Rattle.script_lang.specs.declared.command.Edit.{Edit}
pub use Rattle.node_words.specs.Vectors.{AreWithin}
pub use Rattle.node_values.specs.Givings.{letters_given}
pub use Rattle.column_script.specs.Commands.{IsShared, IsSharedSetup, alone_of, in_column, value_in, IsSharedRun}
pub use Rattle.column_script.specs.declared.command.ColumnCommand.TheVariants.{Shared, Values}
pub use Rattle.settling.specs.PlainStepping.{numbers_from}
pub use Rattle.settling.specs.Settling.{Settles}
pub use Rattle.settling.specs.declared.settling.Settled.{Settled}
pub use Rattle.column_settling.specs.Together.{SettleTogether}
pub use Rattle.printed_lines.specs.declared.lines.TheConstants.{COLUMN_ROOM, REPORT_LINE_ROOM, WAVE_LINE_ROOM, MOST_VALUES}
pub use Rattle.told_lines.specs.Hearing.{Hears, row_of}
pub use Rattle.told_lines.specs.Lines.{AreInRoom, room_of, Shown, Wave, IsShort, line_seen}
pub use Rattle.told_lines.specs.Rows.{count_at, values_at, wave_row}
pub use Rattle.node_looks.specs.Looks.{looked_lines, node_lines}
pub use Rattle.group_analysis.specs.Using.{used_texts}
pub use Rattle.analysis_cache.specs.Keeping.{texts_of}
pub use Rattle.circuit_texts.specs.Building.{Builds, HasTexts}
pub use Rattle.circuit_texts.specs.Sizes.{TellsRefused}
pub use Rattle.column_stage.specs.Acts.{LeadsBy, Placed, Built, Reserved, Rested, Stepped}
pub use Rattle.column_stage.specs.Columns.{AreSound, IsLetters, AreAmong, with_new_nodes}
pub use Rattle.column_stage.specs.Edits.{IsUndone}
pub use Rattle.column_stage.specs.Truths.{KeepsGiven}
pub use Rattle.column_stage.specs.declared.TheConstants.{NEW_NODES}
pub use Rattle.session_meaning.specs.Columns.{ObeysInAll, ObeysInAllOn, QuietlyInAll, acts_of_letters, column_of, MovesInAll, TakesBeatsInAll, count_in, waves_of, BeatInAll, StepInAll}
pub use Rattle.session_meaning.specs.Effects.{IsReported, one_more, places_in, assigned, states_with, with_beat, letters_in, states_by}
pub use Rattle.session_meaning.specs.Outcomes.{Sent, IsDoneAndSent, Obeys}
pub use Rattle.session_meaning.specs.Passing.{IsPhasePass, IsStepPass, IsUnseen, KnowsButClocks, RunThrough, Sees, SeesBeats, SeesPass, KnowsBehind, PassesThrough}
pub use Rattle.session_meaning.specs.Preparing.{NamesNode}
pub use Rattle.session_meaning.specs.Refusals.{first_refusal, known_refusal, given_refusal, nodes_named, none_at}
pub use Rattle.session_meaning.specs.Sessions.{IsHeldSession, start_of, places_of, SessionData}
pub use Rattle.session_meaning.specs.Sinks.{faults_applied, IsSinkFault, refusals_sent}
pub use Rattle.session_meaning.specs.Stages.{IsEditing, IsStill, ObeysOn, SameSetup, acts_of_clocks, GivesOther, PlacesOther, AreShortLists}
pub use Rattle.session_meaning.specs.Switches.{place_after, edit_fault, edit_of}
pub use Rattle.session_meaning.specs.Truths.{GivenInAll, QuietlyInEach, RanOut, ReadiesInAll, SettledTogether, StaysInAll, letters_in_column}
