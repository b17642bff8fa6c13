-- The copies of the formulas so far.
use Rattle.std.proofs.Common.{◌≡◌, map, take, nat_eq}
use Rattle.indexmap.specs.IndexMap.{get}
use Rattle.bool_pool.specs.Compact.{moved_id}
use Rattle.bool_pool.specs.Copying.{place_in}
use Rattle.bool_pool.proofs.compact.Copies.ids_of.Given as goal

abbrev pub invariant-loop-root : goal.invariant-loop-root
invariant-loop-root l = l.found.items ≡ map (moved_id (place_in (get nat_eq l.self.ids))) (take l.root-index l.roots)
