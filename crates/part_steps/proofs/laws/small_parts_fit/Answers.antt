-- What small parts take.
use Rattle.std.proofs.Common.{◌≤◌, arith}
use Rattle.std.proofs.lemmas.List.Elements.{All-weaker}
use Rattle.part_steps.specs.Small.{IsSmallPart, nodes_of}
use Rattle.part_steps.proofs.SmallLemmas.{sum-small, no_need}
use Rattle.part_steps.proofs.laws.small_parts_fit.Goals as goal

pub returns-clause-room : goal.returns-clause-room
returns-clause-room c = no_need

pub returns-clause-maps : goal.returns-clause-maps
returns-clause-maps c = λ parts few small.
    omega (arith, few, sum-small nodes_of parts (All-weaker IsSmallPart (λ part. nodes_of part ≤ 2600) (λ part one. one.map) parts small))
