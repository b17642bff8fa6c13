-- The entries so far are settled.
use Rattle.std.proofs.Common.{◌≡◌, ℕ, ◌<◌, ◌-◌, Some}
use Rattle.std.specs.Prelude.{slice_get}
use Rattle.switch_paths.specs.Graphs.{nodes}
use Rattle.switch_paths.specs.Spread.{rail_of}
use Rattle.why_path.specs.declared.search.Found.{Found}
use Rattle.why_path.specs.Search.{IsSearch, IsSettled, Keeps}
use Rattle.why_path.proofs.search.widen.Given as goal

abbrev pub invariant-loop-from : goal.invariant-loop-from
invariant-loop-from l = record {
  one : l.progress.one ≡ l.initial.progress.one;
  kept : Keeps l.initial.progress.found.items l.progress.found.items;
  sound : IsSearch (rail_of l.initial.progress.one) l.graph l.state l.best l.strength l.progress.found.items l.progress.seen.items;
  below : (k : ℕ) (entry : Found) → k < l.from → slice_get l.progress.found.items k ≡ Some entry →
      IsSettled l.graph l.state l.best l.strength l.progress.found.items entry;
}

abbrev pub decreases-loop-from : goal.decreases-loop-from
decreases-loop-from l = nodes l.graph - l.from
