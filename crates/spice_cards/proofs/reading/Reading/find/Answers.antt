use Rattle.std.proofs.Common.{List, ℕ, Some, None, option_map, sym, ◌∙◌, ap, length, subst, ◌<◌, arith}
use Rattle.spice_cards.specs.Decks.{PartCard}
use Rattle.spice_cards.specs.Readings.{IsWithin, ReadingData, subcircuit_of}
use Rattle.spice_cards.proofs.ReadingLemmas.{between-some, named-All, named_at}
use Rattle.spice_cards.proofs.reading.Reading.find.Goals as goal

pub returns-in_err-place-clause-value : goal.returns-in_err-place-clause-value
returns-in_err-place-clause-value c =
    ap (option_map subcircuit_of) c.from_residual.ensures
    ∙ named_at c.self.inside.pool.inside c.self.inside.subcircuits c.args.name.now None _ c.in_err-place.ensures
    (ap (λ (r : ReadingData). r.so_far.deck.subcircuits) c.self.view_is)

pub inside_parts-requires-clause-ordered : goal.inside_parts-requires-clause-ordered
inside_parts-requires-clause-ordered c =
    let within = named-All (IsWithin (length c.self.inside.pool.inside)) c.self.inside.subcircuits c.args.name.now c.in_ok-place.place
    c.self.invariant.subcircuits (sym c.in_ok-place.ensures) in
    omega (arith, within.ordered)

pub inside_parts-requires-clause-within : goal.inside_parts-requires-clause-within
inside_parts-requires-clause-within c =
    let within = named-All (IsWithin (length c.self.inside.pool.inside)) c.self.inside.subcircuits c.args.name.now c.in_ok-place.place
    c.self.invariant.subcircuits (sym c.in_ok-place.ensures) in
    within.within

pub returns-clause-value : goal.returns-clause-value
returns-clause-value c =
    ap (λ (parts : List PartCard). Some (subcircuit_of parts)) c.inside_parts.ensures
    ∙ named_at c.self.inside.pool.inside c.self.inside.subcircuits c.args.name.now (Some c.in_ok-place.place) _ c.in_ok-place.ensures
    (ap (λ (r : ReadingData). r.so_far.deck.subcircuits) c.self.view_is)

pub returns-clause-opening : goal.returns-clause-opening
returns-clause-opening c =
    let within = named-All (IsWithin (length c.self.inside.pool.inside)) c.self.inside.subcircuits c.args.name.now c.in_ok-place.place
    c.self.invariant.subcircuits (sym c.in_ok-place.ensures) in
    subst (λ (parts : List PartCard). 0 < length parts) (sym c.inside_parts.ensures) (between-some c.self.inside.pool.inside c.in_ok-place.place within)
