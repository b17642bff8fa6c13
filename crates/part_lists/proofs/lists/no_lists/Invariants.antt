-- The nodes so far have empty lists.
use Rattle.std.proofs.Common.{◌≡◌, map, []}
use Rattle.std.specs.Prelude.{replicate}
use Rattle.part_lists.proofs.lists.no_lists.Given as goal

abbrev pub invariant-loop : goal.invariant-loop
invariant-loop l = map (λ parts. parts.items) l.lists.items ≡ replicate l.counter []
