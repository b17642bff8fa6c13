-- The words of netlists that clauses cite, from one place.
pub use Rattle.sim_read.specs.Capacitances.{all_added, with_line, AddInAnyOrder}
pub use Rattle.sim_read.specs.Drafts.{rails_draft, with_mark, sized_in, sized}
pub use Rattle.sim_read.specs.Items.{number_that, strength_after, IsAccepted}
pub use Rattle.sim_read.specs.Meaning.{edited, line_meaning, netlist_of}
pub use Rattle.ternary.specs.Unmade.{IsFault}
pub use Rattle.sim_read.specs.FirstRefused.{MakesAll, IsFirstRefused}
pub use Rattle.sim_read.specs.Standing.{counted, StandsFor, GoesOn, LacksMemory, too_far, IsRead}
