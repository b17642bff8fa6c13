-- What is told of all columns together is what each column's command tells there.
use Rattle.std.proofs.Common.{ℕ, refl, sym, subst, ◌∙◌}
use Rattle.session_meaning.specs.Effects.{told_by}
use Rattle.session_meaning.specs.Refusals.{refusal_of_tell}
use Rattle.symbol_meaning.specs.Merging.{AreMerged}
use Rattle.symbol_session.specs.Sessions.{data_of, maker_of, valuations_by}
use Rattle.symbol_session.specs.Turns.{told_of}
use Rattle.symbol_session.proofs.SilentLemmas.{told_silent}
use Rattle.symbol_session.proofs.TellLemmas.{tell_turn, told_faults, told_refusals, told_stops}
use Rattle.symbol_session.proofs.session.SymbolSession.tell.Goals as goal

pub returns-clause-turn : goal.returns-clause-turn
returns-clause-turn g c =
    let d = c.args.self.now in
    let tell = c.args.tell.now in
    let told = told_of d.session tell in
    let merged = subst (λ (columns : ℕ). AreMerged columns (λ column. told_by (data_of d column) tell) told) c.is_well_formed.ensures.own.shape c.tell_names-ended.ensures.merged in
    λ texts.
    rw c.turn_of.ensures
    (tell_turn (maker_of d) g.L.SymbolLines.hear g.L.SymbolLines.part (valuations_by d) (data_of d) tell c.requires told merged (g.L.SymbolLines.heard c.args.out.now)
    (g.L.SymbolLines.heard c.tell_names-ended.new.out) (told_silent d.session tell) texts (refusal_of_tell d.session.core.circuit d.session.core.vectors tell)
    (λ column inside. refl) c.tell_names-ended.result c.tell_names-ended.ensures.tells)

pub returns-clause-number : goal.returns-clause-number
returns-clause-number g c = λ number. rw c.turn_of.ensures (told_stops c.tell_names-ended.result number)

pub returns-clause-write : goal.returns-clause-write
returns-clause-write g c = rw c.turn_of.ensures (c.tell_names-ended.ensures.faults ∙ sym (told_faults c.tell_names-ended.result (g.L.SymbolLines.faults c.args.out.now)))

pub returns-clause-refused : goal.returns-clause-refused
returns-clause-refused g c =
    rw c.turn_of.ensures (told_refusals c.tell_names-ended.result (g.L.SymbolLines.refusals c.args.out.now) (g.L.SymbolLines.refusals c.tell_names-ended.new.out) c.tell_names-ended.ensures.refusals)
