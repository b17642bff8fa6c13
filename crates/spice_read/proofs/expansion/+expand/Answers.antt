use Rattle.std.proofs.Common.{◌-◌, List, [], ◌∷◌, refl, sym, ◌∙◌, ap}
use Rattle.ternary.specs.declared.unmade.Unmade.TheVariants.{Refused}
use Rattle.spice_cards.specs.declared.fault.DeckWhat.TheVariants.{TooDeep}
use Rattle.spice_cards.specs.Decks.{DeckCards}
use Rattle.spice_cards.specs.Reading.{refusal_at}
use Rattle.spice_read.specs.Frames.{FrameData, scope_of}
use Rattle.spice_read.specs.Making.{after, step_meaning}
use Rattle.spice_read.specs.Scopes.{Scope, called}
use Rattle.spice_read.specs.Steps.{Step, expand, transistor_step}
use Rattle.spice_read.specs.Steps.Step.{opened, refused}
use Rattle.spice_read.proofs.FrameLemmas.{closed-frame, same-after}
use Rattle.spice_read.proofs.StepLemmas.{after-one, after-one_fault, after-opened, call-steps, deep-steps, onward-fault, opened-steps, opening-steps, part-made, part-refused, parts-none, refused-steps, same-fault, transistor-steps}
use Rattle.spice_read.proofs.expansion.+expand.Goals as goal

pub loop-part-preserved-in-Ok : goal.loop-part-preserved-in-Ok
loop-part-preserved-in-Ok t c =
    let step = transistor_step c.loop-part.frame.deck (scope_of c.loop-part.frame) c.in-Some.part.line c.in-Transistor.strength c.in-Some.part.words in (
      part-made c.loop-part.made c.place.new.made c.args.room c.loop-part.frame.deck (scope_of c.loop-part.frame) c.loop-part.part-iterator _ c.next.new.self
          (step ∷ []) _ c.in-Some.ensures.steps
          (transistor-steps c.args.room c.loop-part.frame.deck (scope_of c.loop-part.frame) c.in-Some.part.line c.in-Some.part.sort c.in-Some.part.words c.in-Transistor.strength c.in-Transistor.is)
          c.loop-part.invariant.0 (after-one c.loop-part.made c.place.new.made step c.in-Ok.ensures.ok),
      c.loop-part.invariant.1,
    )

pub returns-in-Err-clause-refused : goal.returns-in-Err-clause-refused
returns-in-Err-clause-refused t c =
    let step = transistor_step c.loop-part.frame.deck (scope_of c.loop-part.frame) c.in-Some.part.line c.in-Transistor.strength c.in-Some.part.words in
    part-refused c.loop-part.made c.args.room c.loop-part.frame.deck (scope_of c.loop-part.frame) c.loop-part.part-iterator _ c.next.new.self
    (step ∷ []) _ c.in-Err.fault c.in-Some.ensures.steps
    (transistor-steps c.args.room c.loop-part.frame.deck (scope_of c.loop-part.frame) c.in-Some.part.line c.in-Some.part.sort c.in-Some.part.words c.in-Transistor.strength c.in-Transistor.is)
    c.loop-part.invariant.0 (after-one_fault c.loop-part.made step c.in-Err.fault c.in-Err.ensures.refused)

pub returns-in-Err-entry-clause-refused : goal.returns-in-Err-entry-clause-refused
returns-in-Err-entry-clause-refused t c =
    let line = c.in-Some.part.line in
    let what = c.in-Err-entry.what in
    part-refused c.loop-part.made c.args.room c.loop-part.frame.deck (scope_of c.loop-part.frame) c.loop-part.part-iterator _ c.next.new.self
    (refused line what ∷ []) _ (Refused (refusal_at line what)) c.in-Some.ensures.steps
    (refused-steps c.args.room c.loop-part.frame.deck (scope_of c.loop-part.frame) line c.in-Some.part.sort c.in-Some.part.words what c.in-Call.is c.in-Err-entry.ensures.value)
    c.loop-part.invariant.0 refl

pub returns-then-room-eq0-clause-refused : goal.returns-then-room-eq0-clause-refused
returns-then-room-eq0-clause-refused t c =
    part-refused c.loop-part.made c.args.room c.loop-part.frame.deck (scope_of c.loop-part.frame) c.loop-part.part-iterator _ c.next.new.self
    (refused c.in-Some.part.line TooDeep ∷ []) _ (Refused (refusal_at c.in-Some.part.line TooDeep)) c.in-Some.ensures.steps
    (deep-steps c.args.room c.loop-part.frame.deck (scope_of c.loop-part.frame) c.in-Some.part.line c.in-Some.part.sort c.in-Some.part.words _ c.in-Call.is c.in-Ok-entry.ensures.value c.if-room-eq0.true)
    c.loop-part.invariant.0 refl

pub returns-in-Err-open-clause-refused : goal.returns-in-Err-open-clause-refused
returns-in-Err-open-clause-refused t c =
    let line = c.in-Some.part.line in
    let found = c.in-Ok-entry.subcircuit in
    let inner : Scope = called c.loop-part.frame.deck (scope_of c.loop-part.frame) c.in-Some.part.words found.line found.ports in
    let steps : List Step = expand (c.args.room - 1) c.loop-part.frame.deck inner found.parts in
    part-refused c.loop-part.made c.args.room c.loop-part.frame.deck (scope_of c.loop-part.frame) c.loop-part.part-iterator _ c.next.new.self
    (opened line ∷ steps) _ c.in-Err-open.fault c.in-Some.ensures.steps
    (opened-steps c.args.room c.loop-part.frame.deck (scope_of c.loop-part.frame) inner line c.in-Some.part.sort c.in-Some.part.words _ c.in-Call.is c.in-Ok-entry.ensures.value
    (λ none. c.if-room-eq0.false none) refl)
    c.loop-part.invariant.0
    (onward-fault (step_meaning c.loop-part.made (opened line)) (λ next. after next steps) c.in-Err-open.fault c.in-Err-open.ensures.refused)

pub returns-in-Err-expand-clause-refused : goal.returns-in-Err-expand-clause-refused
returns-in-Err-expand-clause-refused t c =
    let inner = scope_of c.open-in-Call.new.self in
    let parts = c.in-Ok-entry.subcircuit.parts in
    let steps : List Step = expand (c.args.room - 1) c.loop-part.frame.deck inner parts in
    part-refused c.loop-part.made c.args.room c.loop-part.frame.deck (scope_of c.loop-part.frame) c.loop-part.part-iterator _ c.next.new.self
    (opened c.in-Some.part.line ∷ steps) _ c.in-Err-expand.fault c.in-Some.ensures.steps
    (call-steps c.args.room c.loop-part.frame c.entry.new.frame c.in-Some.part.line c.in-Some.part.sort c.in-Some.part.words _ inner c.in-Call.is
    c.in-Ok-entry.ensures.value (λ none. c.if-room-eq0.false none) c.in-Ok-open-2.ensures.scope c.in-Ok-entry.ensures.stays)
    c.loop-part.invariant.0
    (same-fault (sym (after-opened c.loop-part.made c.open.new.self c.in-Some.part.line steps c.in-Ok-open.ensures.ok)) c.in-Err-expand.fault
    (same-fault (ap (λ (d : DeckCards). after c.open.new.self (expand (c.args.room - 1) d inner parts)) (c.in-Ok-open-2.ensures.deck ∙ ap (λ (f : FrameData). f.deck) c.in-Ok-entry.ensures.stays))
    c.in-Err-expand.fault c.in-Err-expand.ensures.refused))

pub loop-part-preserved-in-Call : goal.loop-part-preserved-in-Call
loop-part-preserved-in-Call t c =
    let inner = scope_of c.open-in-Call.new.self in
    let parts = c.in-Ok-entry.subcircuit.parts in
    let steps : List Step = expand (c.args.room - 1) c.loop-part.frame.deck inner parts in
    let kept = closed-frame c.entry.new.frame c.open-in-Call.new.self c.expand.new.frame c.close.new.self c.depth-depth.result c.depth-depth.ensures
    c.in-Ok-open-2.ensures.deck c.in-Ok-open-2.ensures.outer c.in-Ok-expand.ensures.closed c.close.ensures ∙ c.in-Ok-entry.ensures.stays in
    let made = part-made c.loop-part.made c.expand.new.made c.args.room c.loop-part.frame.deck (scope_of c.loop-part.frame) c.loop-part.part-iterator _ c.next.new.self
    (opened c.in-Some.part.line ∷ steps) _ c.in-Some.ensures.steps
    (call-steps c.args.room c.loop-part.frame c.entry.new.frame c.in-Some.part.line c.in-Some.part.sort c.in-Some.part.words _ inner c.in-Call.is
    c.in-Ok-entry.ensures.value (λ none. c.if-room-eq0.false none) c.in-Ok-open-2.ensures.scope c.in-Ok-entry.ensures.stays)
    c.loop-part.invariant.0
    (after-opened c.loop-part.made c.open.new.self c.in-Some.part.line steps c.in-Ok-open.ensures.ok
    ∙ sym (ap (λ (d : DeckCards). after c.open.new.self (expand (c.args.room - 1) d inner parts)) (c.in-Ok-open-2.ensures.deck ∙ ap (λ (f : FrameData). f.deck) c.in-Ok-entry.ensures.stays))
    ∙ c.in-Ok-expand.ensures.ok) in
    (same-after c.expand.new.made c.args.room c.close.new.self c.loop-part.frame c.next.new.self _ kept made, kept ∙ c.loop-part.invariant.1)

pub loop-part-preserved : goal.loop-part-preserved
loop-part-preserved t c = (
  part-made c.loop-part.made c.loop-part.made c.args.room c.loop-part.frame.deck (scope_of c.loop-part.frame) c.loop-part.part-iterator _ c.next.new.self
      [] _ c.in-Some.ensures.steps
      (opening-steps c.args.room c.loop-part.frame.deck (scope_of c.loop-part.frame) c.in-Some.part.line c.in-Some.part.sort c.in-Some.part.words c.in-Opening.is)
      c.loop-part.invariant.0 refl,
  c.loop-part.invariant.1,
)

pub returns-clause-ok : goal.returns-clause-ok
returns-clause-ok t c =
    parts-none c.loop-part.made c.args.room c.loop-part.frame.deck (scope_of c.loop-part.frame) c.loop-part.part-iterator _ c.in-None.ensures.steps.0 c.loop-part.invariant.0
