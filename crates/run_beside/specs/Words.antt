-- The words of two runs side by side that clauses cite, from one place.
pub use Rattle.run_beside.specs.Agreeing.{Agrees, IsMove, Follows, IsEvaluated, StaysAtRest}
pub use Rattle.run_beside.specs.Beside.{FollowsIn, IsBeside}
pub use Rattle.run_beside.specs.Replacing.{Replaces, IsAtEnd, IsReplacement, ReplacesFrom}
pub use Rattle.run_beside.specs.Following.{IsWritten, FollowsAt}
pub use Rattle.run_beside.specs.Noticing.{IsConcerned, KeepsApart, ConcernsDiffering, ConcernsSome, Notices, NoticesChanges, NoticesGood, ReadsAgreeing}
pub use Rattle.run_beside.specs.Stepping.{MovesBeside, RemarksBeside}
pub use Rattle.run_beside.specs.Near.{AreNear, AreNearIn, HasNear, IsFar, IsOut}
