-- The nodes so far were placed.
use Rattle.std.proofs.Common.{◌≡◌}
use Rattle.beside_run.specs.Running.{PlacesSome}
use Rattle.beside_run.proofs.BeginningLemmas.{LagsFrom}
use Rattle.beside_run.proofs.beginning.place_given.Given as goal

abbrev pub invariant-loop-place : goal.invariant-loop-place
invariant-loop-place l = record {
  places : PlacesSome l.good_graph l.graph l.fn.machine l.machine l.good l.apart.inside;
  same : l.good ≡ l.fn.good;
  lags : LagsFrom l.place l.given.list l.state l.machine.state;
}
