-- The next node is called by its own name.
use Rattle.std.proofs.Common.{◌≡◌, arith, ap}
use Rattle.std.specs.Prelude.{[], unwrap_or}
use Rattle.std.proofs.lemmas.Grind.{common_steps}
use Rattle.std.proofs.lemmas.List.FromFn.{map-range_with_len_more}
use Rattle.netlist.specs.Circuits.{called}
use Rattle.circuit_listing.proofs.circuit.names_of.Goals as goal

pub loop-node-preserved : goal.loop-node-preserved
loop-node-preserved c =
    let name : called c.args.circuit.now c.loop-node.node ≡ c.name_of.result.now = ap (λ name. unwrap_or name []) c.name_of.ensures.name in
    let more = map-range_with_len_more (called c.args.circuit.now) 0 c.loop-node.node c.loop-node.node (omega arith) in
    grind (arith, common_steps)
