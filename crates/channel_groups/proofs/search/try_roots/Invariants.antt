-- The roots so far were tried.
use Rattle.std.proofs.Common.{◌+◌, ◌≤◌, length, filter, take}
use Rattle.channel_groups.specs.Search.{AreFound, AreFoundFrom, Finds, is_storage, search_cost}
use Rattle.channel_groups.proofs.search.try_roots.Given as goal

abbrev pub invariant-loop-root : goal.invariant-loop-root
invariant-loop-root g l = record {
  found : AreFound l.graph l.found.seen.keys l.found.fresh.items;
  finds : Finds l.graph (take l.root-index l.roots) l.initial.found.seen.keys l.found.seen.keys;
  from : AreFoundFrom (take l.root-index l.roots) l.initial.found.fresh.items l.found.fresh.items;
  steps : l.steps + search_cost l.initial.found.fresh.items
      ≤ l.initial.steps + length (filter (is_storage l.graph) (take l.root-index l.roots)) + search_cost l.found.fresh.items;
}
