-- There is room for the new nodes, and nothing that was built serves a graph any more.
use Rattle.std.proofs.Common.{◌≡◌, ℕ, ◌<◌, length, sym, subst, ◌∙◌, true≢false, arith}
use Rattle.std.proofs.lemmas.Nat.{pow_pos}
use Rattle.switch_paths.specs.Graphs.{nodes}
use Rattle.column_stage.specs.Columns.{with_new_nodes}
use Rattle.truth_makers.specs.Makers.{columns_in, function_holds}
use Rattle.symbol_stage.specs.Stages.{columns_on, states_in}
use Rattle.symbol_stage.proofs.ColumnLemmas.{counted-columns}
use Rattle.symbol_stage.proofs.StayingLemmas.{given_beside, columns_beside}
use Rattle.symbol_stage.proofs.columns.SymbolStageColumns.edit.Goals as goal

pub add_nodes-requires : goal.add_nodes-requires
add_nodes-requires c =
    let (before, undone, sound, room, serves) = c.requires.before in
    let m = c.args.self.now.machine in
    let counted : length m.hi ≡ nodes before =
    counted-columns before (columns_in m.maker) (function_holds m.maker) m.hi m.lo c.are_rails.ensures sound (pow_pos m.maker.graph.variables) in
    record { more = omega (arith, c.nodes.ensures, undone.more, counted); few = omega (arith, c.nodes.ensures, room, counted) }

pub returns-clause-columns : goal.returns-clause-columns
returns-clause-columns c = columns_beside c.args.self.now c.add_nodes.new.self c.add_nodes.ensures.maker

pub returns-clause-states : goal.returns-clause-states
returns-clause-states c =
    subst (λ (n : ℕ). (column : ℕ) → column < columns_on c.args.self.now → states_in c.add_nodes.new.self column ≡ with_new_nodes (states_in c.args.self.now column) n)
    c.nodes.ensures c.add_nodes.ensures.states

pub returns-clause-serves : goal.returns-clause-serves
returns-clause-serves c = λ built. absurd (true≢false (sym built ∙ c.add_nodes.ensures.unbuilt))

pub returns-clause-did : goal.returns-clause-did
returns-clause-did c = record {
  moves = record {
    count = columns_beside c.args.self.now c.add_nodes.new.self c.add_nodes.ensures.maker;
    each = subst (λ (n : ℕ). (column : ℕ) → column < columns_on c.args.self.now → states_in c.add_nodes.new.self column
        ≡ with_new_nodes (states_in c.args.self.now column) n) c.nodes.ensures c.add_nodes.ensures.states;
  };
  keeps = given_beside c.args.self.now c.add_nodes.new.self c.add_nodes.ensures.maker;
}
