-- Of the entry whose hops are tried, the places so far are passed.
use Rattle.std.proofs.Common.{◌≡◌, ℕ, Some, take}
use Rattle.std.specs.Prelude.{slice_get, Contains}
use Rattle.switch_paths.specs.Spread.{rail_of}
use Rattle.why_path.specs.declared.search.Found.{Found}
use Rattle.why_path.specs.Search.{IsSearch, IsPassed, Keeps}
use Rattle.why_path.proofs.search.try_hops.Given as goal

abbrev pub invariant-loop-place : goal.invariant-loop-place
invariant-loop-place l = record {
  one : l.progress.one ≡ l.initial.progress.one;
  kept : Keeps l.initial.progress.found.items l.progress.found.items;
  sound : IsSearch (rail_of l.initial.progress.one) l.graph l.state l.best l.strength l.progress.found.items l.progress.seen.items;
  passed : (entry : Found) → slice_get l.initial.progress.found.items l.from ≡ Some entry →
      (place : ℕ) → Contains (take l.place-index l.places) place →
      IsPassed l.graph l.state l.best l.strength l.progress.found.items entry place;
}
