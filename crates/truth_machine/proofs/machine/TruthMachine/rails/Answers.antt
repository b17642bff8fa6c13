-- The node's rails stand at its place, and in each column they are those of its state.
use Rattle.std.proofs.Common.{◌<◌, length, sym, ap, ◌∙◌, subst, arith}
use Rattle.truth_columns.proofs.ColumnLemmas.{high_at_node, low_at_node}
use Rattle.truth_parts.specs.Columns.{states_in}
use Rattle.truth_machine.specs.Machines.{TruthData}
use Rattle.truth_machine.proofs.machine.TruthMachine.rails.Goals as goal

pub returns-clause-high : goal.returns-clause-high
returns-clause-high g c = rw (← c.self.view_is) (sym c.index.ensures)

pub returns-clause-low : goal.returns-clause-low
returns-clause-low g c = rw (← c.self.view_is) (sym c.index-2.ensures)

pub returns-clause-high_has : goal.returns-clause-high_has
returns-clause-high_has g c =
    let i = c.self.inside in
    let within : c.args.node < length i.hi.items = omega (arith, c.requires, ap (λ (d : TruthData _ _). length d.hi) c.self.view_is) in
    rw (← c.self.view_is)
    (subst (g.T.Truths.has i.truths) (sym c.index.ensures) (c.self.invariant.0.highs c.args.node c.index.result.now within))

pub returns-clause-low_has : goal.returns-clause-low_has
returns-clause-low_has g c =
    let i = c.self.inside in
    let m = c.self.invariant.0 in
    let within : c.args.node < length i.lo.items = omega (arith, c.requires, m.columns.counted, ap (λ (d : TruthData _ _). length d.hi) c.self.view_is) in
    rw (← c.self.view_is)
    (subst (g.T.Truths.has i.truths) (sym c.index-2.ensures) (m.lows c.args.node c.index-2.result.now within))

pub returns-clause-one : goal.returns-clause-one
returns-clause-one g c =
    let i = c.self.inside in
    let within : c.args.node < length i.hi.items = omega (arith, c.requires, ap (λ (d : TruthData _ _). length d.hi) c.self.view_is) in
    rw (← c.self.view_is) (λ column inside.
    ap (λ x. g.T.Truths.holds i.truths x column) c.index.ensures
    ∙ high_at_node (g.T.Truths.holds i.truths) column i.hi.items i.lo.items (states_in (g.T.Truths.holds i.truths) column i.hi.items i.lo.items)
    (c.self.invariant.0.columns.each column inside) c.args.node c.index.result.now within)

pub returns-clause-zero : goal.returns-clause-zero
returns-clause-zero g c =
    let i = c.self.inside in
    let within : c.args.node < length i.hi.items = omega (arith, c.requires, ap (λ (d : TruthData _ _). length d.hi) c.self.view_is) in
    rw (← c.self.view_is) (λ column inside.
    ap (λ x. g.T.Truths.holds i.truths x column) c.index-2.ensures
    ∙ low_at_node (g.T.Truths.holds i.truths) column i.hi.items i.lo.items (states_in (g.T.Truths.holds i.truths) column i.hi.items i.lo.items)
    (c.self.invariant.0.columns.each column inside) c.self.invariant.0.columns.counted c.args.node c.index-2.result.now within)
