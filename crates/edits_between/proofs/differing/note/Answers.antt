-- It was noted, or is alike.
use Rattle.std.proofs.Common.{List, [], ◌∷◌, inl, inr, sym, subst}
use Rattle.std.specs.Prelude.{Contains}
use Rattle.std.proofs.lemmas.List.Elements.{Contains-append_left, Contains-push}
use Rattle.edits_between.specs.declared.differing.Spot.{Spot}
use Rattle.edits_between.proofs.differing.note.Goals as goal

pub returns-then-alike-clause-noted : goal.returns-then-alike-clause-noted
returns-then-alike-clause-noted c = inr c.if-alike.true

pub returns-clause-kept : goal.returns-clause-kept
returns-clause-kept c = λ other held.
    subst (λ (list : List Spot). Contains list other) (sym c.in_ok-push.ensures.items) (Contains-append_left c.args.spots.now.items (c.args.spot ∷ []) other held)

pub returns-clause-noted : goal.returns-clause-noted
returns-clause-noted c =
    inl (subst (λ (list : List Spot). Contains list c.args.spot) (sym c.in_ok-push.ensures.items) (Contains-push c.args.spots.now.items c.args.spot))
