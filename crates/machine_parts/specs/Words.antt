-- The words of parts, marks and readers that clauses cite, from one place.
pub use Rattle.machine_parts.specs.Parts.{AreApart, HasMember, IsStale, ReadsAt, Stands, has_members}
pub use Rattle.machine_parts.specs.Stepping.{Remarks}
pub use Rattle.machine_parts.specs.Marking.{AreOnce, IsMarked, MarksAll, count_marked, instructions_of, marked_sum, members_of}
pub use Rattle.machine_parts.specs.Evaluating.{Evaluated, IsSeated}
pub use Rattle.machine_parts.specs.Readers.{Adds, AreEachOnce, AreListed, AreOffTo, HaveSameReaders, IsLastIf, ListsAll, ListsSome, Unlists, readers_of}
pub use Rattle.machine_parts.specs.Running.{AreAgreed, AreOwners, IsRunnable, IsTaken, ReadsAny}
pub use Rattle.machine_parts.specs.Making.{HasRoomFor, IsCodeRoom, IsFormed, NeedTooMuch, Owns, held}
pub use Rattle.machine_parts.specs.Putting.{Puts}
