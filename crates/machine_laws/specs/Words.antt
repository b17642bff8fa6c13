-- The words of machines that clauses cite, from one place.
pub use Rattle.machine_laws.specs.Machines.{Advances, Places, groups_in}
pub use Rattle.machine_laws.specs.Fitting.{AreUntold, Covers, FitsGraph, IsKeptBy}
pub use Rattle.machine_laws.specs.Editing.{Edits, Finishes, MakesReady, StaysKnown, with_new_nodes}
pub use Rattle.machine_laws.specs.Columns.{AreSeated}
pub use Rattle.machine_laws.specs.Finishing.{first_node}
pub use Rattle.machine_laws.specs.Holding.{IsReady}
pub use Rattle.machine_laws.specs.Seating.{AddsStale, AreOfSome, Clears, Disowns, IsStalePartOf, IsVacant, IsWithAny, Renews, RenewsAll, RenewsAt, Seats, Vacates, members_in, one_of}
pub use Rattle.machine_laws.specs.Beginnings.{AreInOrder, Begins, BeginsAt, HasLast}
