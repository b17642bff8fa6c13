-- The roots so far are in.
use Rattle.std.proofs.Common.{◌≡◌, All, take}
use Rattle.switch_paths.specs.Spread.{rail_of}
use Rattle.why_path.specs.Search.{IsSearch, IsRootIn}
use Rattle.why_path.proofs.search.add_roots.Given as goal

abbrev pub invariant-loop-node : goal.invariant-loop-node
invariant-loop-node l = record {
  one : l.progress.one ≡ l.initial.progress.one;
  sound : IsSearch (rail_of l.initial.progress.one) l.graph l.state l.best l.strength l.progress.found.items l.progress.seen.items;
  roots : All (IsRootIn (rail_of l.initial.progress.one) l.graph l.state l.best l.strength l.progress.found.items)
      (take l.node-index l.roots);
}
