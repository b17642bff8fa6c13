-- The phase is noted, or the machine goes by itself.
use Rattle.std.proofs.Common.{ℕ, ◌+◌, ◌^◌, ◌<◌, List, length, sym, ap, subst}
use Rattle.std.proofs.lemmas.Bool.{OnTrue_at}
use Rattle.ternary.specs.declared.tern.Tern.{Tern}
use Rattle.switch_paths.specs.Graphs.{GraphData}
use Rattle.machine_laws.specs.Fitting.{FitsGraph}
use Rattle.fault_stage.proofs.CourseLemmas.{settles_alone, settles_recorded}
use Rattle.fault_stage.proofs.settling_beside.settle_recorded.Goals as goal

pub settle_to_rest-told-requires : goal.settle_to_rest-told-requires
settle_to_rest-told-requires g c =
    let alone = c.requires.goes.alone in
    record {
      fits = alone.fits;
      low = c.requires.low;
      high = c.requires.high;
      knows = subst (λ (s : List Tern). g.O.Observer.knows c.args.onlooker.now s) (sym alone.state_is) c.requires.knows;
    }

pub returns-then-not-is_recorded-clause-settles : goal.returns-then-not-is_recorded-clause-settles
returns-then-not-is_recorded-clause-settles g c =
    let told = c.settle_to_rest-told in
    settles_alone g.O.Observer.see c.args.graph.now c.args.limit told.result.steps told.result.joined c.args.state.now c.args.machine.now told.new.machine
    (g.O.Observer.seen c.args.onlooker.now) (g.O.Observer.seen told.new.onlooker) c.args.good.now c.requires.goes.alone told.ensures.takes told.ensures.seen

pub note_uncounted-told-requires-clause-fits : goal.note_uncounted-told-requires-clause-fits
note_uncounted-told-requires-clause-fits g c =
    subst (λ (h : GraphData). FitsGraph h c.args.machine.now) (sym c.requires.goes.graph) c.requires.goes.alone.fits

pub note_uncounted-told-requires-clause-counted : goal.note_uncounted-told-requires-clause-counted
note_uncounted-told-requires-clause-counted g c = c.requires.goes.known

pub note_uncounted-told-requires-clause-few : goal.note_uncounted-told-requires-clause-few
note_uncounted-told-requires-clause-few g c =
    subst (λ (n : ℕ). c.args.limit + n < 2 ^ 62) (ap length c.state.ensures) (OnTrue_at c.if-not-is_recorded.false c.is_recorded.ensures)

pub note_uncounted-told-requires-clause-knows : goal.note_uncounted-told-requires-clause-knows
note_uncounted-told-requires-clause-knows g c =
    subst (λ (s : List Tern). g.O.Observer.knows c.args.onlooker.now s) (sym c.requires.goes.alone.state_is) c.requires.knows

pub returns-clause-settles : goal.returns-clause-settles
returns-clause-settles g c =
    let told = c.note_uncounted-told in
    settles_recorded g.O.Observer.see c.args.graph.now c.args.limit told.result.steps told.result.joined c.args.state.now c.args.machine.now told.new.machine
    (g.O.Observer.seen c.args.onlooker.now) (g.O.Observer.seen told.new.onlooker) c.args.good.now told.new.good c.requires.goes told.ensures.settles

pub returns-clause-good : goal.returns-clause-good
returns-clause-good g c = c.note_uncounted-told.ensures.settles.graph
