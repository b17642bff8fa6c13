-- The name is that of a supply, for the node that it stands for, or it is another.
use Rattle.std.proofs.Common.{◌<◌, sym, ◌∙◌, arith}
use Rattle.switch_paths.specs.Graphs.{nodes}
use Rattle.circuit_lint.proofs.TableLemmas.{named_inside, supplies-other, supplies-named}
use Rattle.circuit_lint.proofs.supplies.note_name.Goals as goal

pub note_first-requires : goal.note_first-requires
note_first-requires c =
    let low : c.name_at-node.result.1 < nodes c.args.circuit.now.graph =
    named_inside c.args.circuit.now c.args.place c.name_at-node.result.0.now c.name_at-node.result.1 c.name_at-node.ensures c.requires.circuit in
    omega (arith, low, c.requires.before.size)

pub returns-then-is_supply_name : goal.returns-then-is_supply_name
returns-then-is_supply_name c =
    let named = c.name_at-node.result in
    let there = c.name_at-node.ensures in
    rw c.note_first.ensures
    (supplies-named c.args.circuit.now c.args.place named.0.now named.1 there (sym c.is_supply_name.ensures ∙ c.if-is_supply_name.true)
    (named_inside c.args.circuit.now c.args.place named.0.now named.1 there c.requires.circuit) c.args.firsts.now.items c.requires.before)

pub returns-else-is_supply_name : goal.returns-else-is_supply_name
returns-else-is_supply_name c =
    let named = c.name_at-node.result in
    supplies-other c.args.circuit.now c.args.place named.0.now named.1 c.name_at-node.ensures (sym c.is_supply_name.ensures ∙ c.if-is_supply_name.false)
    c.args.firsts.now.items c.requires.before
