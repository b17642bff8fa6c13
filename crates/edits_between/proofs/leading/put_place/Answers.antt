-- What stood at the place would stand there again.
use Rattle.std.proofs.Common.{None, ap, subst, ◌∙◌}
use Rattle.std.specs.Prelude.{slice_set}
use Rattle.std.proofs.lemmas.Bool.{OnFalse_at, OnTrue_at}
use Rattle.std.proofs.lemmas.List.{set-get_or, set-set}
use Rattle.switch_paths.specs.Graphs.{FitsPlace, GraphData, place_at}
use Rattle.edits_between.proofs.ReachingLemmas.{place_past}
use Rattle.edits_between.proofs.leading.put_place.Goals as goal

pub returns-then-not-has_place-clause-put : goal.returns-then-not-has_place-clause-put
returns-then-not-has_place-clause-put c =
    place_past c.args.target.now c.args.graph.now c.args.place (OnFalse_at c.if-not-has_place.true c.has_place.ensures.past)

pub switch_at-stood-requires : goal.switch_at-stood-requires
switch_at-stood-requires c = OnTrue_at c.if-not-has_place.false c.has_place.ensures.inside

pub put_switch-requires-clause-in_range : goal.put_switch-requires-clause-in_range
put_switch-requires-clause-in_range c = OnTrue_at c.if-not-has_place.false c.has_place.ensures.inside

pub put_switch-requires-clause-fits : goal.put_switch-requires-clause-fits
put_switch-requires-clause-fits c = subst (λ n. FitsPlace n c.switch_there.result) c.requires.nodes_are c.switch_there.ensures.fits

pub returns-clause-before : goal.returns-clause-before
returns-clause-before c =
    let places = c.args.graph.now.places in
    ap (λ (h : GraphData). slice_set h.places c.args.place c.switch_at-stood.result) c.put_switch.ensures
    ∙ (ap (λ stood. slice_set (slice_set places c.args.place c.switch_there.result) c.args.place stood) c.switch_at-stood.ensures.value
    ∙ (set-set places c.args.place c.switch_there.result (place_at places c.args.place) ∙ set-get_or places c.args.place None))

pub returns-clause-put : goal.returns-clause-put
returns-clause-put c =
    c.put_switch.ensures
    ∙ ap (λ stands. record c.args.graph.now { places = slice_set c.args.graph.now.places c.args.place stands }) c.switch_there.ensures.value
