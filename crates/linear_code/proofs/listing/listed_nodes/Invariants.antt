-- So far the nodes that were passed are listed with their kinds and names.
use Rattle.std.proofs.Common.{◌≡◌, map, take, length}
use Rattle.std.specs.Prelude.{nat_lt}
use Rattle.strength_order.specs.declared.TheConstants.{INPUT_LEVEL}
use Rattle.linear_code.proofs.listing.listed_nodes.Given as goal

abbrev pub invariant-loop-node : goal.invariant-loop-node
invariant-loop-node l = record {
  kinds : map (λ one. one.is_storage) l.listed.items ≡ map (λ level. nat_lt level INPUT_LEVEL) (take (length l.yielded) l.graph.levels);
  named : map (λ one. one.name.items) l.listed.items ≡ map (λ name. name.items) (map (λ item. item.1) l.yielded);
}
