-- The nodes so far have no readers.
use Rattle.std.proofs.Common.{◌≡◌, map, []}
use Rattle.std.specs.Prelude.{replicate}
use Rattle.part_steps.proofs.readers.no_readers.Given as goal

abbrev pub invariant-loop : goal.invariant-loop
invariant-loop l = map (λ parts. parts.items) l.readers.items ≡ replicate l.counter []
