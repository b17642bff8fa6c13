-- The words of columns, with X for new nodes.
use Rattle.std.proofs.Common.{ℕ, List, length, sym, ap, subst, arith}
use Rattle.word_columns.specs.Columns.{AreRailsIn}
use Rattle.machine_laws.specs.Editing.{with_new_nodes}
use Rattle.column_machines.proofs.EditLemmas.{GrowsWords-grown}
use Rattle.column_machines.proofs.column_machine.words_left.Goals as goal

pub grow_rails-requires-clause-even : goal.grow_rails-requires-clause-even
grow_rails-requires-clause-even c =
    let rails = c.into_rails-rails.result in
    omega (
      arith,
      ap length c.into_rails-rails.ensures.highs,
      ap length c.into_rails-rails.ensures.lows,
      c.columns-few.ensures.is.columns_are.counted,
      rails.hi.ok.0,
      rails.lo.ok.0,
    )

pub grow_rails-requires-clause-room : goal.grow_rails-requires-clause-room
grow_rails-requires-clause-room c =
    let highs = ap length c.into_rails-rails.ensures.highs in
    let lows = ap length c.into_rails-rails.ensures.lows in
    let hi = c.into_rails-rails.result.hi in
    let lo = c.into_rails-rails.result.lo in
    record {
      hi = omega (arith, c.requires, c.nodes.ensures, highs, hi.ok.0, hi.ok.1);
      lo = omega (arith, c.requires, c.nodes.ensures, highs, lows, c.columns-few.ensures.is.columns_are.counted, hi.ok.0, lo.ok.0, lo.ok.1);
    }

pub returns : goal.returns
returns c =
    let m = c.args.machine in
    let new_hi = c.grow_rails.new.rails.hi.items in
    let new_lo = c.grow_rails.new.rails.lo.items in
    let high = c.into_rails-rails.ensures.highs in
    let low = c.into_rails-rails.ensures.lows in
    GrowsWords-grown c.args.graph.now m.columns m.hi m.lo new_hi new_lo (omega (arith, c.columns-few.ensures.few, c.columns-few.ensures.value)) c.columns-few.ensures.is.columns_are
    (omega (arith, c.grow_rails.ensures.highs, c.grow_rails.ensures.lows, c.grow_rails.new.rails.hi.ok.0, c.grow_rails.new.rails.lo.ok.0))
    (λ column state inside has.
    subst (λ (n : ℕ). AreRailsIn column new_hi new_lo (with_new_nodes state n)) c.nodes.ensures
    (c.grow_rails.ensures.states column state inside
    (subst (λ (hi : List ℕ). AreRailsIn column hi c.into_rails-rails.result.lo.items state) (sym high)
    (subst (λ (lo : List ℕ). AreRailsIn column m.hi lo state) (sym low) has))))
