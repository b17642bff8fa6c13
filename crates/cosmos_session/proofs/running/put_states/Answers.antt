use Rattle.std.proofs.Common.{◌≡◌, ◌<◌, ◌≤◌, ◌∷◌, [], ℕ, List, drop, length, refl, sym, subst, ◌∙◌, arith}
use Rattle.std.proofs.lemmas.List.{drop_all}
use Rattle.switch_paths.specs.Switching.{state_at}
use Rattle.column_stage.specs.Acts.{Act, Leads, Placed}
use Rattle.column_stage.proofs.LeadingLemmas.{acts_next}
use Rattle.session_meaning.specs.Effects.{states_with}
use Rattle.session_meaning.specs.Sessions.{ClockData}
use Rattle.session_meaning.specs.Stages.{acts_of_clocks}
use Rattle.session_meaning.proofs.StateLemmas.{states_with-more}
use Rattle.cosmos_session.proofs.StageLemmas.{keeps_stage-both, keeps_stage-none}
use Rattle.cosmos_session.proofs.running.put_states.Goals as goal

pub loop-clock-init : goal.loop-clock-init
loop-clock-init g c = record {
  states = λ column inside. refl;
  keeps = keeps_stage-none g.M.Columns.columns g.M.Columns.states g.M.Columns.last g.M.Columns.serves g.M.Columns.fits c.args.graph.now
      c.args.stage.now c.requires.sound;
  did = λ end rest. rest;
}

pub put_state-requires-clause-some : goal.put_state-requires-clause-some
put_state-requires-clause-some g c = subst (λ (n : ℕ). 1 ≤ n) (sym c.loop-clock.invariant.keeps.count) c.requires.some

pub loop-clock-preserved : goal.loop-clock-preserved
loop-clock-preserved g c =
    let graph = c.args.graph.now in
    let clocks = c.args.clocks.now in
    let clock = c.clock-item.result in
    let k = c.loop-clock.clock-index in
    let place = c.args.place in
    let inside : k < length clocks = omega arith in
    record {
      states = λ column there.
          let within : column < g.M.Columns.columns c.loop-clock.stage = subst (λ (n : ℕ). column < n) (sym c.loop-clock.invariant.keeps.count) there in
          states_with-more clocks k place clock (g.M.Columns.states c.loop-clock.stage column) (g.M.Columns.states c.put_state.new.stage column) inside c.clock-item.is
          (c.put_state.ensures.states column within) ∙ c.loop-clock.invariant.states column there;
      keeps = keeps_stage-both g.M.Columns.columns g.M.Columns.states g.M.Columns.last g.M.Columns.serves g.M.Columns.fits graph
          c.args.stage.now c.loop-clock.stage c.put_state.new.stage c.loop-clock.invariant.keeps c.put_state.ensures.keeps;
      did = λ end rest. c.loop-clock.invariant.did end
          (subst (λ (acts : List Act). Leads g.M.Columns.did c.loop-clock.stage acts end)
          (sym (acts_next (λ (one : ClockData). Placed graph one.node (state_at one.states place ∷ [])) clocks k clock inside c.clock-item.is))
          (c.put_state.new.stage, c.put_state.ensures.did, rest));
    }

pub returns-clause-did : goal.returns-clause-did
returns-clause-did g c =
    let graph = c.args.graph.now in
    c.loop-clock.invariant.did c.loop-clock.stage
    (subst (λ (left : List ClockData). Leads g.M.Columns.did c.loop-clock.stage (acts_of_clocks graph left c.args.place) c.loop-clock.stage)
    (sym (drop_all c.loop-clock.clock-index c.args.clocks.now (omega arith))) refl)

pub returns-clause-states : goal.returns-clause-states
returns-clause-states g c =
    let none : drop c.loop-clock.clock-index c.args.clocks.now ≡ [] = drop_all c.loop-clock.clock-index c.args.clocks.now (omega arith) in
    λ column inside.
    subst (λ (left : List ClockData). states_with left c.args.place (g.M.Columns.states c.loop-clock.stage column)
    ≡ states_with c.args.clocks.now c.args.place (g.M.Columns.states c.args.stage.now column)) none (c.loop-clock.invariant.states column inside)
