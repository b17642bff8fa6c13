-- One more clock's node has its state in each column.
use Rattle.std.proofs.Common.{◌<◌, ℕ, List, length, refl, sym, ap, subst, ◌∙◌, arith}
use Rattle.std.proofs.lemmas.List.{drop_all}
use Rattle.column_stage.proofs.GivenLemmas.{keeps_more, keeps_none}
use Rattle.session_meaning.specs.Effects.{states_with}
use Rattle.session_meaning.specs.Sessions.{ClockData}
use Rattle.session_meaning.proofs.StateLemmas.{states_with-more}
use Rattle.cosmos_session.proofs.StageLemmas.{keeps_stage-both, keeps_stage-none}
use Rattle.cosmos_session.proofs.truths.put_beats.Goals as goal

pub loop-clock-init : goal.loop-clock-init
loop-clock-init g c = record {
  states = λ column inside. refl;
  keeps = keeps_stage-none g.M.Columns.columns g.M.Columns.states g.M.Columns.last g.M.Columns.serves g.M.Columns.fits c.args.graph.now
      c.args.stage.now c.requires.sound;
  kept = keeps_none g.M.Columns.columns g.M.TruthStage.gives g.M.TruthStage.letter_of g.M.TruthStage.bound c.args.stage.now;
}

pub loop-clock-preserved : goal.loop-clock-preserved
loop-clock-preserved g c =
    let now = c.loop-clock.stage in
    let next = c.put_beat.new.stage in
    let clocks = c.args.clocks.now in
    let clock = c.clock-item.result in
    let k = c.loop-clock.clock-index in
    let inside : k < length clocks = omega arith in
    record {
      states = λ column within.
          let there : column < g.M.Columns.columns now = subst (λ (n : ℕ). column < n) (sym c.loop-clock.invariant.keeps.count) within in
          states_with-more clocks k c.args.place clock (g.M.Columns.states now column) (g.M.Columns.states next column) inside c.clock-item.is
          (c.put_beat.ensures.states column there)
          ∙ c.loop-clock.invariant.states column within;
      keeps = keeps_stage-both g.M.Columns.columns g.M.Columns.states g.M.Columns.last g.M.Columns.serves g.M.Columns.fits c.args.graph.now
          c.args.stage.now now next c.loop-clock.invariant.keeps c.put_beat.ensures.keeps;
      kept = keeps_more g.M.Columns.columns g.M.TruthStage.gives g.M.TruthStage.letter_of g.M.TruthStage.bound c.args.stage.now now next c.loop-clock.invariant.keeps.count
          c.loop-clock.invariant.kept c.put_beat.ensures.kept;
    }

pub returns-clause-states : goal.returns-clause-states
returns-clause-states g c = λ column inside.
    ap (λ (left : List ClockData). states_with left c.args.place (g.M.Columns.states c.loop-clock.stage column))
    (sym (drop_all c.loop-clock.clock-index c.args.clocks.now (omega arith)))
    ∙ c.loop-clock.invariant.states column inside
