-- The first of the listed nodes are noted.
use Rattle.std.proofs.Common.{◌≡◌, length}
use Rattle.state_cover.proofs.CoverLemmas.{SoFar}
use Rattle.state_cover.proofs.cover.CoverObserver.see.Given as goal

abbrev pub invariant-loop-at : goal.invariant-loop-at
invariant-loop-at g l = record {
  so_far : SoFar (g.M.Moved.changed l.moved) (g.M.Moved.state l.moved) l.fn.self l.self l.at;
  end : l.at-end ≡ length (g.M.Moved.changed l.moved);
}
