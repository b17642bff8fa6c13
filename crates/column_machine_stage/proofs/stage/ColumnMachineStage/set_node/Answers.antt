use Rattle.std.proofs.Common.{◌<◌, length, refl, sym, subst, ◌∙◌}
use Rattle.column_machines.specs.Columns.{column_states, HasStates}
use Rattle.column_machines.specs.Moving.{highs_of, lows_of}
use Rattle.column_machine_stage.specs.declared.stage.Held.{Held}
use Rattle.column_machine_stage.specs.Stages.{StageData, hi_held, lo_held, states_in}
use Rattle.column_machine_stage.proofs.ColumnLemmas.{AreColumns-set, within_high}
use Rattle.column_machine_stage.proofs.stage.ColumnMachineStage.set_node.Goals as goal
use Rattle.column_machine_stage.proofs.stage.ColumnMachineStage.set_node.Goals.{in-Still, in-Built}

pub place-requires-clause-inside : goal.place-requires-clause-inside
place-requires-clause-inside c =
    let hi = highs_of c.in-Built.machine in
    let lo = lows_of c.in-Built.machine in
    let inside : c.args.node < length (column_states 0 hi lo) =
    subst (λ (held : Held). c.args.node < length (column_states 0 (hi_held held) (lo_held held))) c.in-Built.is
    (subst (λ (stage : StageData). c.args.node < length (states_in stage 0)) (sym c.self.view_is) c.requires.inside) in
    within_high 0 c.args.node (length (column_states 0 hi lo)) hi lo refl inside

pub invariant_of-self : goal.invariant_of-self
invariant_of-self c =
    let words = c.args.words in
    elim c.match-self.branch [
      | in-Still w ↦ rw w.self-inside-is (record {
        some = c.self.invariant.some;
        few = c.self.invariant.few;
        columns_are = AreColumns-set c.self.inside.columns c.args.node words w.in-Still.rails.hi.items w.in-Still.rails.lo.items
            (subst (λ (stage : StageData). HasStates stage.columns words.hi words.lo) (sym c.self.view_is) c.requires.states)
            (rw w.in-Still.is at c.self.invariant.columns_are);
        same = tt;
      })
      | in-Built w ↦ rw w.self-inside-is (record {
        some = c.self.invariant.some;
        few = c.self.invariant.few;
        columns_are = tt;
        same = w.place.ensures.columns ∙ rw w.in-Built.is at c.self.invariant.same;
      })
    ]

pub returns-clause-machine : goal.returns-clause-machine
returns-clause-machine c =
    elim c.match-self.branch [
      | in-Still w ↦ rw (w.self-inside-is, ← c.self.view_is, w.in-Still.is) refl
      | in-Built w ↦ rw (w.self-inside-is, ← c.self.view_is, w.in-Built.is) (
        w.place.new.self,
        refl,
        record {
          covers = w.place.ensures.covers;
          fits = w.place.ensures.fits;
          known = w.place.ensures.known c.args.graph.now;
          last = w.place.ensures.last;
          kind = w.place.ensures.kind;
        },
      )
    ]
