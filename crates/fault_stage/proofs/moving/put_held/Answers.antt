-- The node has the first letter, whatever is held.
use Rattle.std.proofs.Common.{◌∙◌, refl, ap, subst, arith}
use Rattle.std.specs.Prelude.{slice_set}
use Rattle.ternary.specs.declared.tern.Tern.{Tern}
use Rattle.column_stage.specs.Columns.{IsSoundState}
use Rattle.machine_stage.proofs.LetterLemmas.{first_letter}
use Rattle.fault_stage.specs.declared.held.Held.{Held}
use Rattle.fault_stage.specs.Runs.{IsWell}
use Rattle.fault_stage.specs.Stages.{ReadyData, data_of, ready_of, state_of, wait_of}
use Rattle.fault_stage.proofs.StayingLemmas.{ready_moved, waits_moved}
use Rattle.fault_stage.proofs.moving.put_held.Goals as goal

pub put_whole-requires-clause-sound : goal.put_whole-requires-clause-sound
put_whole-requires-clause-sound c = subst (λ (held : Held). IsSoundState c.args.graph.now (state_of (data_of held))) c.in-Whole.is c.requires.sound

pub returns-in-Whole-clause-state : goal.returns-in-Whole-clause-state
returns-in-Whole-clause-state c = rw c.in-Whole.is c.put_whole.ensures.state

pub returns-in-Whole-clause-stays : goal.returns-in-Whole-clause-stays
returns-in-Whole-clause-stays c = rw c.in-Whole.is c.put_whole.ensures.stays

pub place-requires-clause-built : goal.place-requires-clause-built
place-requires-clause-built c = subst IsWell c.in-Built.is c.requires.well

pub place-requires-clause-inside : goal.place-requires-clause-inside
place-requires-clause-inside c =
    let sound : IsSoundState c.args.graph.now c.in-Built.built.state.items =
    subst (λ (held : Held). IsSoundState c.args.graph.now (state_of (data_of held))) c.in-Built.is c.requires.sound in
    omega (arith, c.requires.inside, sound.counted)

pub returns-in-Built-clause-well : goal.returns-in-Built-clause-well
returns-in-Built-clause-well c = c.place.ensures.built

pub returns-in-Built-clause-state : goal.returns-in-Built-clause-state
returns-in-Built-clause-state c =
    rw c.in-Built.is (ap (λ (ready : ReadyData). ready.state) c.place.ensures.same
    ∙ ap (λ (value : Tern). slice_set c.in-Built.built.state.items c.args.node value) (first_letter c.args.letters.now))

pub returns-in-Built-clause-stays : goal.returns-in-Built-clause-stays
returns-in-Built-clause-stays c =
    rw c.in-Built.is (ready_moved c.args.graph.now (ready_of c.in-Built.built) (ready_of c.place.new.self) _ c.place.ensures.same)

pub put_state-requires : goal.put_state-requires
put_state-requires c =
    let sound : IsSoundState c.args.graph.now c.in-Waiting.waiting.state.items =
    subst (λ (held : Held). IsSoundState c.args.graph.now (state_of (data_of held))) c.in-Waiting.is c.requires.sound in
    omega (arith, c.requires.inside, sound.counted)

pub returns-in-Waiting-clause-well : goal.returns-in-Waiting-clause-well
returns-in-Waiting-clause-well c = subst IsWell c.in-Waiting.is c.requires.well

pub returns-in-Waiting-clause-state : goal.returns-in-Waiting-clause-state
returns-in-Waiting-clause-state c =
    rw c.in-Waiting.is (c.put_state.ensures
    ∙ ap (λ (value : Tern). slice_set c.in-Waiting.waiting.state.items c.args.node value) (first_letter c.args.letters.now))

pub returns-in-Waiting-clause-stays : goal.returns-in-Waiting-clause-stays
returns-in-Waiting-clause-stays c = rw c.in-Waiting.is (waits_moved c.args.graph.now (wait_of c.in-Waiting.waiting) _ refl)
