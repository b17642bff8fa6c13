-- One name more.
use Rattle.std.proofs.Common.{◌≡◌, ℕ, List, ap, subst, ◌∙◌, arith}
use Rattle.std.specs.Prelude.{flat_map}
use Rattle.std.proofs.lemmas.Result.{err_from_is_err_and}
use Rattle.netlist.specs.Edits.{node_named}
use Rattle.told_lines.specs.Hearing.{HearsPart, SoFar, hear_all}
use Rattle.told_lines.proofs.HearingLemmas.{so_far-end, so_far-more, so_far-stopped}
use Rattle.symbol_looking.specs.Letters.{letter_on}
use Rattle.symbol_looking.specs.Names.{looked_at, looked_told}
use Rattle.symbol_looking.specs.Tellings.{tellings}
use Rattle.symbol_looking.proofs.HeardLemmas.{drop_end, looked_next}
use Rattle.symbol_looking.proofs.looking.look_names.Goals as goal

pub node_in_use-requires : goal.node_in_use-requires
node_in_use-requires g c = rw (c.items.ensures, c.name-item.is) (c.requires.known c.loop-name.name-index c.name-item.result (omega arith))

pub returns-in_err-tell_node-clause-heard : goal.returns-in_err-tell_node-clause-heard
returns-in_err-tell_node-clause-heard g c =
    let hear = g.L.SymbolLines.hear in
    let circuit = c.args.circuit.now in
    let letters = letter_on c.args.stage.now in
    let stopped = err_from_is_err_and c.from_residual.result c.from_residual.ensures.1 in
    let node = c.node_in_use.ensures.value ∙ ap (node_named circuit) c.items.ensures in
    let part : HearsPart hear g.L.SymbolLines.part (g.L.SymbolLines.heard c.loop-name.out) (g.L.SymbolLines.heard c.tell_node.new.out)
    (tellings (looked_told circuit letters c.name-item.result)) =
    subst (λ (n : ℕ). HearsPart hear g.L.SymbolLines.part (g.L.SymbolLines.heard c.loop-name.out) (g.L.SymbolLines.heard c.tell_node.new.out)
    (tellings (looked_at circuit letters n))) node c.in_err-tell_node.ensures.heard in
    rw stopped.1
    (so_far-stopped hear g.L.SymbolLines.part _ _ _ _ _ _ _
    (looked_next c.args.names.now c.loop-name.name-index c.name-item.result (omega arith) c.name-item.is (looked_told circuit letters))
    c.loop-name.invariant.heard part)

pub loop-name-preserved : goal.loop-name-preserved
loop-name-preserved g c =
    let hear = g.L.SymbolLines.hear in
    let circuit = c.args.circuit.now in
    let letters = letter_on c.args.stage.now in
    let name = c.name-item.result in
    let node = c.node_in_use.ensures.value ∙ ap (node_named circuit) c.items.ensures in
    let more : g.L.SymbolLines.heard c.tell_node.new.out
    ≡ hear_all hear (g.L.SymbolLines.heard c.loop-name.out) (tellings (looked_told circuit letters name)) =
    subst (λ (n : ℕ). g.L.SymbolLines.heard c.tell_node.new.out
    ≡ hear_all hear (g.L.SymbolLines.heard c.loop-name.out) (tellings (looked_at circuit letters n))) node c.in_ok-tell_node.ensures.heard in
    record {
      heard = so_far-more hear _ _ _ _ _ (tellings (looked_told circuit letters name)) _
          (looked_next c.args.names.now c.loop-name.name-index name (omega arith) c.name-item.is (looked_told circuit letters))
          c.loop-name.invariant.heard more;
      faults = c.in_ok-tell_node.ensures.faults ∙ c.loop-name.invariant.faults;
      refusals = c.in_ok-tell_node.ensures.refusals ∙ c.loop-name.invariant.refusals;
    }

pub returns-clause-heard : goal.returns-clause-heard
returns-clause-heard g c =
    so_far-end g.L.SymbolLines.hear _ _ _
    (subst (λ (left : List (List ℕ)). SoFar g.L.SymbolLines.hear (g.L.SymbolLines.heard c.args.out.now) (g.L.SymbolLines.heard c.loop-name.out)
    (tellings (flat_map (looked_told c.args.circuit.now (letter_on c.args.stage.now)) c.args.names.now))
    (tellings (flat_map (looked_told c.args.circuit.now (letter_on c.args.stage.now)) left))) (drop_end c.args.names.now c.loop-name.name-index (omega arith))
    c.loop-name.invariant.heard)
