use Rattle.std.proofs.Common.{◌≤◌, length}
use Rattle.sim_read.proofs.StandingLemmas.{Passes}
use Rattle.sim_read.proofs.pieces.Reader.take.Given as goal

abbrev pub invariant-lines : goal.invariant-lines
invariant-lines l = record {
  passes : Passes l.initial.self l.self l.piece l.left;
  shorter : length l.left ≤ length l.piece;
}

abbrev pub decreases-lines : goal.decreases-lines
decreases-lines l = length l.left
