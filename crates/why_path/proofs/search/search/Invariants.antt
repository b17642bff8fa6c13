-- Of what is stronger than the strength of the moment nothing is missing.
use Rattle.std.proofs.Common.{◌≡◌}
use Rattle.switch_paths.specs.Spread.{rail_of}
use Rattle.why_path.specs.Search.{IsSearch}
use Rattle.why_path.proofs.search.search.Given as goal

abbrev pub invariant-loop-strength : goal.invariant-loop-strength
invariant-loop-strength l = record {
  one : l.progress.one ≡ l.one;
  sound : IsSearch (rail_of l.one) l.graph l.state l.best l.strength l.progress.found.items l.progress.seen.items;
}

abbrev pub decreases-loop-strength : goal.decreases-loop-strength
decreases-loop-strength l = l.strength
