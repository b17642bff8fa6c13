-- One name more.
use Rattle.std.proofs.Common.{◌≡◌, ℕ, List, [], ◌∷◌, map, subst, ◌∙◌, arith}
use Rattle.std.proofs.lemmas.Result.{err_from_is_err_and}
use Rattle.told_lines.specs.Hearing.{HearsFront, SoFar, hear_all}
use Rattle.told_lines.proofs.HearingLemmas.{so_far-end, so_far-front, so_far-more}
use Rattle.symbol_looking.specs.Names.{shown_told}
use Rattle.symbol_looking.specs.Tellings.{telling, tellings}
use Rattle.symbol_looking.proofs.HeardLemmas.{drop_end, shown_next}
use Rattle.symbol_looking.proofs.StageLemmas.{nodes_inside}
use Rattle.symbol_looking.proofs.showing.show_all.Goals as goal

pub show_name-requires : goal.show_name-requires
show_name-requires g c =
    let session = c.args.session.now in
    let held = c.stage-stage.ensures.session in
    record {
      states = rw (c.circuit-circuit.ensures.value, c.stage-stage.ensures.value) (nodes_inside session held);
      netlist = rw c.circuit-circuit.ensures.value held.core.ready.netlist;
      vectors = rw (c.circuit-circuit.ensures.value, c.vectors-vectors.ensures) held.core.vectors;
    }

pub returns-in_err-show_name-clause-heard : goal.returns-in_err-show_name-clause-heard
returns-in_err-show_name-clause-heard g c =
    let hear = g.L.SymbolLines.hear in
    let line = shown_told c.args.session.now in
    let stopped = err_from_is_err_and c.from_residual.result c.from_residual.ensures.1 in
    let front : HearsFront hear g.L.SymbolLines.part (g.L.SymbolLines.heard c.loop-name.out) (g.L.SymbolLines.heard c.show_name.new.out)
    (telling (line c.name-item.result) ∷ []) =
    subst (λ (name : List ℕ). HearsFront hear g.L.SymbolLines.part (g.L.SymbolLines.heard c.loop-name.out)
    (g.L.SymbolLines.heard c.show_name.new.out) (telling (line name) ∷ [])) c.items.ensures
    (rw (c.circuit-circuit.ensures.value, c.vectors-vectors.ensures, c.stage-stage.ensures.value) at c.in_err-show_name.ensures.heard) in
    rw stopped.1
    (so_far-front hear g.L.SymbolLines.part _ _ _ _ _ _ _
    (shown_next c.args.names.now c.loop-name.name-index c.name-item.result (omega arith) c.name-item.is line) c.loop-name.invariant.heard front)

pub loop-name-preserved : goal.loop-name-preserved
loop-name-preserved g c =
    let hear = g.L.SymbolLines.hear in
    let line = shown_told c.args.session.now in
    let more : g.L.SymbolLines.heard c.show_name.new.out
    ≡ hear_all hear (g.L.SymbolLines.heard c.loop-name.out) (tellings (line c.name-item.result ∷ [])) =
    subst (λ (name : List ℕ). g.L.SymbolLines.heard c.show_name.new.out
    ≡ hear_all hear (g.L.SymbolLines.heard c.loop-name.out) (telling (line name) ∷ [])) c.items.ensures
    (rw (c.circuit-circuit.ensures.value, c.vectors-vectors.ensures, c.stage-stage.ensures.value) at c.in_ok-show_name.ensures.heard) in
    record {
      heard = so_far-more hear _ _ _ _ _ (tellings (line c.name-item.result ∷ [])) _
          (shown_next c.args.names.now c.loop-name.name-index c.name-item.result (omega arith) c.name-item.is line) c.loop-name.invariant.heard more;
      faults = c.in_ok-show_name.ensures.faults ∙ c.loop-name.invariant.faults;
      refusals = c.in_ok-show_name.ensures.refusals ∙ c.loop-name.invariant.refusals;
    }

pub returns-clause-heard : goal.returns-clause-heard
returns-clause-heard g c =
    let line = shown_told c.args.session.now in
    so_far-end g.L.SymbolLines.hear _ _ _
    (subst (λ (left : List (List ℕ)). SoFar g.L.SymbolLines.hear (g.L.SymbolLines.heard c.args.out.now) (g.L.SymbolLines.heard c.loop-name.out)
    (tellings (map line c.args.names.now)) (tellings (map line left))) (drop_end c.args.names.now c.loop-name.name-index (omega arith))
    c.loop-name.invariant.heard)
