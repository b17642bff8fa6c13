-- The line was heard, or a part of it.
use Rattle.std.proofs.Common.{List, [], ◌∷◌, length, map, sym, ap, subst, ◌∙◌}
use Rattle.std.specs.Prelude.{Option}
use Rattle.std.proofs.lemmas.List.{length-map}
use Rattle.ternary.specs.declared.tern.Tern.{Tern}
use Rattle.decision_graph.specs.declared.vertex.Function.{Function}
use Rattle.symbol_told.specs.Lines.{Telling}
use Rattle.symbol_looking.specs.Letters.{letter_on, rail_of}
use Rattle.symbol_looking.specs.Tellings.{HearsSome}
use Rattle.symbol_looking.specs.Waves.{wave_with}
use Rattle.symbol_looking.proofs.HeardLemmas.{on_ok}
use Rattle.symbol_looking.proofs.waves.tell_nodes.Goals as goal

pub tell_values-requires : goal.tell_values-requires
tell_values-requires g c =
    let stage = c.args.stage.now in
    let nodes = c.args.nodes.now in
    ap length (c.deref-2.ensures.value ∙ c.in_ok-highs.ensures.highs) ∙ length-map nodes (rail_of stage.machine.hi)
    ∙ sym (ap length (c.deref-3.ensures.value ∙ c.in_ok-highs.ensures.lows) ∙ length-map nodes (rail_of stage.machine.lo))

pub returns-clause-heard : goal.returns-clause-heard
returns-clause-heard g c =
    let stage = c.args.stage.now in
    let nodes = c.args.nodes.now in
    let wave = wave_with c.args.n c.args.told in
    let letters : List (Option Tern) = map (letter_on stage) nodes in
    let highs : List Function = map (rail_of stage.machine.hi) nodes in
    let line =
    ap (λ (values : List (Option Tern)). wave values c.deref-2.result.now c.deref-3.result.now) (c.deref.ensures.value ∙ c.in_ok-values.ensures)
    ∙ ap (λ (rails : List Function). wave letters rails c.deref-3.result.now) (c.deref-2.ensures.value ∙ c.in_ok-highs.ensures.highs)
    ∙ ap (λ (rails : List Function). wave letters highs rails) (c.deref-3.ensures.value ∙ c.in_ok-highs.ensures.lows) in
    subst (λ (told : Telling). HearsSome g.L.SymbolLines.hear g.L.SymbolLines.part (g.L.SymbolLines.heard c.args.out.now)
    (g.L.SymbolLines.heard c.tell_values.new.out) (told ∷ []) c.tell_values.result) line c.tell_values.ensures.heard

pub returns-clause-rails : goal.returns-clause-rails
returns-clause-rails g c =
    let rails = c.in_ok-highs.ensures in
    on_ok c.tell_values.result (rw (rails.highs, rails.lows) at rails.rails)
