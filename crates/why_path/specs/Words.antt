-- The words of the clauses, from one place.
pub use Rattle.group_meaning.specs.Groups.{AreGroups}
pub use Rattle.netlist.specs.Circuits.{called}
pub use Rattle.switch_paths.specs.Graphs.{level_of, nodes, FitsPlace}
pub use Rattle.switch_paths.specs.Path.{at_root, IsBlocked, Stand}
pub use Rattle.switch_paths.specs.Plain.{AreStrongest}
pub use Rattle.switch_paths.specs.Spread.{rail_of}
pub use Rattle.switch_paths.specs.Switching.{state_at}
pub use Rattle.why_path.specs.Lines.{hop_text, hops_text, no_reason_line_of, rail_word, sort_word, AreTold, IsReasonLine}
pub use Rattle.why_path.specs.Near.{IsNear}
pub use Rattle.why_path.specs.Reasons.{Explains, IsLive}
pub use Rattle.why_path.specs.Search.{list_at, AreAllBelow, HaveSwitches, IsEntryOf, IsPassed, IsRootIn, IsRootOf, IsSearch, IsSettled, IsTrail, Keeps, Lands, LeadBack}
