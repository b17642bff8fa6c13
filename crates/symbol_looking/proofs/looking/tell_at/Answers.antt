-- One place more.
use Rattle.std.proofs.Common.{◌<◌, ◌≤◌, ◌+◌, ◌∷◌, [], List, length, filter_map, sym, subst, ◌∙◌, arith}
use Rattle.std.proofs.lemmas.Result.{err_from_is_err_and}
use Rattle.switch_paths.specs.Graphs.{place_at}
use Rattle.told_lines.specs.Hearing.{SoFar}
use Rattle.told_lines.proofs.HearingLemmas.{so_far-end, so_far-more, so_far-stopped}
use Rattle.symbol_told.specs.Lines.{Telling}
use Rattle.symbol_looking.specs.Letters.{letter_on}
use Rattle.symbol_looking.specs.Names.{all_told_at, told_at}
use Rattle.symbol_looking.specs.Tellings.{tellings}
use Rattle.symbol_looking.proofs.HeardLemmas.{none_behind, places_next}
use Rattle.symbol_looking.proofs.looking.tell_at.Goals as goal

pub returns-in_err-tell_some-clause-heard : goal.returns-in_err-tell_some-clause-heard
returns-in_err-tell_some-clause-heard g c =
    let line = told_at c.args.terminal c.args.circuit.now (letter_on c.args.stage.now) c.args.node in
    let inside : c.loop-place.place < length c.args.circuit.now.graph.places = omega (arith, c.loop-place-test.true, c.count_of-place-end.ensures) in
    let stopped = err_from_is_err_and c.from_residual.result c.from_residual.ensures.1 in
    rw stopped.1 (so_far-stopped g.L.SymbolLines.hear g.L.SymbolLines.part _ _ _ _ _ _ _ (places_next line c.args.circuit.now c.loop-place.place inside)
    c.loop-place.invariant.heard (rw c.line_at.ensures at c.in_err-tell_some.ensures.heard))

pub loop-place-preserved : goal.loop-place-preserved
loop-place-preserved g c =
    let circuit = c.args.circuit.now in
    let line = told_at c.args.terminal circuit (letter_on c.args.stage.now) c.args.node in
    let place = c.loop-place.place in
    let inside : place < length circuit.graph.places = omega (arith, c.loop-place-test.true, c.count_of-place-end.ensures) in
    record {
      heard = so_far-more g.L.SymbolLines.hear _ _ _ _ _ (tellings (filter_map line ((place + 1, place_at circuit.graph.places place) ∷ []))) _
          (places_next line circuit place inside) c.loop-place.invariant.heard (rw c.line_at.ensures at c.in_ok-tell_some.ensures.heard);
      faults = c.in_ok-tell_some.ensures.faults ∙ c.loop-place.invariant.faults;
      refusals = c.in_ok-tell_some.ensures.refusals ∙ c.loop-place.invariant.refusals;
    }

pub returns-clause-heard : goal.returns-clause-heard
returns-clause-heard g c =
    let circuit = c.args.circuit.now in
    let line = told_at c.args.terminal circuit (letter_on c.args.stage.now) c.args.node in
    let past : length circuit.graph.places ≤ c.loop-place.place = omega (arith, c.loop-place-test.false, c.count_of-place-end.ensures) in
    so_far-end g.L.SymbolLines.hear _ _ _
    (subst (λ (left : List Telling). SoFar g.L.SymbolLines.hear (g.L.SymbolLines.heard c.args.out.now) (g.L.SymbolLines.heard c.loop-place.out)
    (tellings (all_told_at c.args.terminal circuit (letter_on c.args.stage.now) c.args.node)) left) (sym (none_behind line circuit c.loop-place.place past))
    c.loop-place.invariant.heard)
