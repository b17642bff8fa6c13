-- The line is the assignment's; without memory nothing was told.
use Rattle.std.proofs.Common.{◌≡◌, ◌∙◌, ℕ, List, ◌∷◌, [], inl, refl, ap, ap₂, sym, subst}
use Rattle.std.proofs.lemmas.Result.{err_from_is_err_and}
use Rattle.ternary.specs.declared.tern.Tern.{Tern}
use Rattle.told_lines.specs.Hearing.{HearsFront}
use Rattle.told_lines.proofs.HearingLemmas.{so_far-start}
use Rattle.symbol_meaning.specs.Told.{SymbolTold, Unmet}
use Rattle.symbol_told.specs.Lines.{Telling}
use Rattle.symbol_stage.specs.Stages.{StageData}
use Rattle.symbol_expecting.specs.Missing.{AreWantedOf}
use Rattle.symbol_expecting.specs.Telling.{states_under, telling_alone, unmet_told, TellsLine}
use Rattle.symbol_expecting.proofs.FaultLemmas.{unheard_spent}
use Rattle.symbol_expecting.proofs.telling.tell_unmet.Goals as goal

-- nothing of a line was heard
untold : {H : Type 0} (hear : H → Telling → H) (part : H → Telling → H → Type 0) (line : Telling) (before : H) → HearsFront hear part before before (line ∷ [])
untold hear part line before = inl (line ∷ [], so_far-start hear before (line ∷ []))

pub states-requires : goal.states-requires
states-requires g c = subst (λ (stage : StageData). AreWantedOf stage c.args.pairs.now) (sym c.stage.ensures.value) c.requires

pub returns-in_err-wanted : goal.returns-in_err-wanted
returns-in_err-wanted g c =
    let stopped = err_from_is_err_and c.from_residual.result c.from_residual.ensures.1 in
    let line = telling_alone (unmet_told c.args.session.now c.args.own.now c.args.pairs.now c.args.vars.now c.args.n) in
    rw (stopped.1, stopped.2)
    (record { told = untold g.L.SymbolLines.hear g.L.SymbolLines.part line (g.L.SymbolLines.heard c.args.out.now); spent = tt; faults = refl; refusals = refl })

pub returns-in_err-got : goal.returns-in_err-got
returns-in_err-got g c =
    let stopped = err_from_is_err_and c.from_residual-in_err-got.result c.from_residual-in_err-got.ensures.1 in
    let line = telling_alone (unmet_told c.args.session.now c.args.own.now c.args.pairs.now c.args.vars.now c.args.n) in
    rw (stopped.1, stopped.2)
    (record { told = untold g.L.SymbolLines.hear g.L.SymbolLines.part line (g.L.SymbolLines.heard c.args.out.now); spent = tt; faults = refl; refusals = refl })

pub returns-clause-told : goal.returns-clause-told
returns-clause-told g c =
    let session = c.args.session.now in
    let wanted = c.deref.ensures.value ∙ c.in_ok-wanted.ensures in
    let got : c.deref-2.result.now ≡ states_under session.stage c.args.pairs.now c.args.vars.now =
    c.deref-2.ensures.value ∙ c.in_ok-got.ensures
    ∙ ap (λ (stage : StageData). states_under stage c.args.pairs.now c.args.vars.now) c.stage.ensures.value in
    let line : Unmet c.items.result.now c.deref.result.now c.deref-2.result.now c.args.n c.args.vars.now
    ≡ unmet_told session c.args.own.now c.args.pairs.now c.args.vars.now c.args.n =
    ap (λ (name : List ℕ). Unmet name c.deref.result.now c.deref-2.result.now c.args.n c.args.vars.now) c.items.ensures
    ∙ ap₂ (λ (text : List ℕ) (states : List Tern). Unmet c.args.own.now.name text states c.args.n c.args.vars.now) wanted got in
    subst (λ (told : SymbolTold). TellsLine g.L.SymbolLines.hear g.L.SymbolLines.part told (g.L.SymbolLines.heard c.args.out.now)
    (g.L.SymbolLines.heard c.tell_line.new.out) c.tell_line.result) line c.tell_line.ensures.told

pub returns-clause-spent : goal.returns-clause-spent
returns-clause-spent g c = unheard_spent c.args.session.now.stage c.tell_line.result c.tell_line.ensures.unheard
