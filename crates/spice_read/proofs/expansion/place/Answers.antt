use Rattle.std.proofs.Common.{◌≡◌, List, ℕ, OnOk, IfErr, Ok, sym, ap, ◌∙◌, subst}
use Rattle.spice_cards.specs.Decks.{DeckCards}
use Rattle.ternary.specs.Unmade.{IsFault}
use Rattle.spice_read.specs.Frames.{scope_of}
use Rattle.spice_read.specs.Making.{step_meaning}
use Rattle.spice_read.specs.Scopes.{node_in}
use Rattle.spice_read.specs.Steps.{Step, kind_of, transistor_step}
use Rattle.spice_read.specs.Steps.Step.{placed}
use Rattle.spice_read.proofs.StepLemmas.{placed-step}
use Rattle.spice_read.proofs.expansion.place.Goals as goal
use Rattle.spice_read.proofs.expansion.place.Goals.{After-drop-gate-2}

-- the transistor that is placed is that of the card
is_placed : (c : After-drop-gate-2) →
    placed c.args.line c.in-Some.kind c.strength_number.result c.deref.result.now c.deref-2.result.now c.deref-3.result.now
    ≡ transistor_step c.args.frame.now.deck (scope_of c.args.frame.now) c.args.line c.args.set c.args.words.now
is_placed c =
    let node = λ (name : List ℕ). node_in c.args.frame.now.deck (scope_of c.args.frame.now) name in
    placed-step c.args.frame.now.deck (scope_of c.args.frame.now) c.args.line c.args.set c.args.words.now c.in-Some.kind c.strength_number.result
    c.deref.result.now c.deref-2.result.now c.deref-3.result.now
    (sym (c.in-Some.ensures ∙ ap (λ (deck : DeckCards). kind_of deck c.at.result.now) c.deck.ensures ∙ ap (kind_of c.args.frame.now.deck) c.at.ensures))
    c.strength_number.ensures
    (c.deref.ensures.value ∙ c.in_ok-gate.ensures ∙ ap node c.at-2.ensures)
    (c.deref-2.ensures.value ∙ c.in_ok-source.ensures ∙ ap node c.at-3.ensures)
    (c.deref-3.ensures.value ∙ c.in_ok-drain.ensures ∙ ap node c.at-4.ensures)

pub returns-clause-ok : goal.returns-clause-ok
returns-clause-ok c =
    subst (λ (step : Step). OnOk c.place.result (step_meaning c.args.made.now step ≡ Ok c.place.new.self)) (is_placed c) c.place.ensures.ok

pub returns-clause-refused : goal.returns-clause-refused
returns-clause-refused c =
    subst (λ (step : Step). IfErr c.place.result (IsFault (step_meaning c.args.made.now step))) (is_placed c) c.place.ensures.refused
