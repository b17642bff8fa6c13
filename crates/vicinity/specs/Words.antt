-- The words of vicinities that clauses cite, from one place.
pub use Rattle.vicinity.specs.Touching.{IsAwake}
pub use Rattle.vicinity.specs.NodeSets.{IsIn}
pub use Rattle.vicinity.specs.Lists.{places_of, all_at, TellGates}
pub use Rattle.vicinity.specs.Arms.{IsArm, LeadsTo, ListsLive}
pub use Rattle.vicinity.specs.LiveLists.{AreListsOf, TurnsIn, TurnsAtNode, TurnsGate, AddsIn, AddsAt, AddsEnds, AreListedBelow}
pub use Rattle.vicinity.specs.Flooding.{Wakes}
pub use Rattle.vicinity.specs.Entries.{own_strength, IsWay, HasAbove, IsFloorAt, AreWays, HasSources, IsSpreadOf, IsSpreadFrom, AreEntries}
pub use Rattle.vicinity.specs.Sources.{is_crossed, HasEdge}
pub use Rattle.vicinity.specs.Spreading.{IsSweep, GoesOn, Raises, Starts, IsSpreadOver, cost_at, size_of, owed}
pub use Rattle.vicinity.specs.Evaluating.{IsScratch, HasRails, NotesWhere, AreChanges, IsPaid}
pub use Rattle.vicinity.specs.Stepping.{TurnsAt, Touches, Stirs, StepsGroup, PlacesGroup}
pub use Rattle.vicinity.specs.Wides.{Calms, Turned, PlacesWide}
pub use Rattle.vicinity.specs.Growing.{no_places, with_lists, GrowsWide}
