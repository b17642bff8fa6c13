-- There is room for each new node.
use Rattle.std.proofs.Common.{ℕ, subst, arith}
use Rattle.word_columns.specs.Columns.{AreRailsIn}
use Rattle.machine_laws.specs.Editing.{with_new_nodes}
use Rattle.column_machines.proofs.EditLemmas.{GrowsWords-grown}
use Rattle.column_machine_stage.proofs.stage.grown.Goals as goal

pub grow_rails-requires-clause-room : goal.grow_rails-requires-clause-room
grow_rails-requires-clause-room c =
    let hi = c.args.rails.hi in
    let lo = c.args.rails.lo in
    record {
      hi = omega (arith, c.requires.room, c.nodes.ensures, hi.ok.0, hi.ok.1);
      lo = omega (arith, c.requires.room, c.nodes.ensures, c.requires.columns_are.counted, hi.ok.0, lo.ok.0, lo.ok.1);
    }

pub grow_rails-requires-clause-even : goal.grow_rails-requires-clause-even
grow_rails-requires-clause-even c = omega (arith, c.requires.columns_are.counted, c.args.rails.hi.ok.0, c.args.rails.lo.ok.0)

pub returns : goal.returns
returns c =
    let old = c.args.rails in
    let new_hi = c.grow_rails.new.rails.hi.items in
    let new_lo = c.grow_rails.new.rails.lo.items in
    GrowsWords-grown c.args.graph.now c.args.columns old.hi.items old.lo.items new_hi new_lo c.requires.few c.requires.columns_are
    (omega (arith, c.grow_rails.ensures.highs, c.grow_rails.ensures.lows, c.grow_rails.new.rails.hi.ok.0, c.grow_rails.new.rails.lo.ok.0))
    (λ column state inside has.
    subst (λ (n : ℕ). AreRailsIn column new_hi new_lo (with_new_nodes state n)) c.nodes.ensures (c.grow_rails.ensures.states column state inside has))
