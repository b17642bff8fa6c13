-- The variables are those of the script, so the session starts as any does.
use Rattle.std.proofs.Common.{◌≡◌, ℕ, ◌<◌, List, true, length, IfErr, IfOk, sym, ap, subst, ◌∙◌}
use Rattle.line_words.specs.Files as file
use Rattle.symbol_meaning.specs.Readings.{valuations_of}
use Rattle.symbol_meaning.specs.Scripts.{before_stop, read_of, stop_of}
use Rattle.symbol_comparing.specs.Told.{AreValuationsOf}
use Rattle.symbol_run.specs.Halts.{StopsAmong}
use Rattle.symbol_run.specs.declared.session.SymbolFault.{SymbolFault}
use Rattle.symbol_session.specs.Sessions.{ServesLines, SymbolData, data_of, valuations_by}
use Rattle.symbol_session.specs.Starting.{StartData, data_at_start, valuations_at_start}
use Rattle.symbol_session.proofs.StartLemmas.{among_alike, answers_serves, answers_starts, answers_valuations, unwritten_fault, variables_valued}
use Rattle.symbol_session.proofs.quiet_start.SymbolStartSessionStartSymbolSession.start.Goals as goal

pub begin-requires-clause-maker : goal.begin-requires-clause-maker
begin-requires-clause-maker c =
    let text = c.self.inside.text.text in
    let read = read_of true (file.cut_line text) (file.lines_in text) in
    let valued = subst (λ (s : StartData). AreValuationsOf c.args.symbols (valuations_at_start s)) (sym c.self.view_is) c.requires in
    variables_valued c.args.symbols read valued ∙ ap (λ (names : List (List ℕ)). length names) (sym (c.items.ensures ∙ c.self.invariant))

pub begin-requires-clause-variables : goal.begin-requires-clause-variables
begin-requires-clause-variables c = c.items.ensures ∙ c.self.invariant

pub returns-clause-valuations : goal.returns-clause-valuations
returns-clause-valuations c =
    let start : StartData = record { circuit = c.self.inside.circuit; text = c.self.inside.text.text } in
    subst (λ (s : StartData). IfOk c.begin.result (λ (d : SymbolData). valuations_by d ≡ valuations_at_start s)) c.self.view_is
    (answers_valuations start c.begin.result c.begin.ensures.quiet c.begin.ensures.text)

pub returns-clause-sessions : goal.returns-clause-sessions
returns-clause-sessions c =
    let start : StartData = record { circuit = c.self.inside.circuit; text = c.self.inside.text.text } in
    subst (λ (s : StartData). IfOk c.begin.result (λ (d : SymbolData). (column : ℕ) → column < (valuations_at_start s).columns → data_of d column ≡ data_at_start s))
    c.self.view_is
    (answers_starts start c.begin.result c.begin.ensures.quiet c.begin.ensures.text c.begin.ensures.starts)

pub returns-clause-serves : goal.returns-clause-serves
returns-clause-serves c =
    let start : StartData = record { circuit = c.self.inside.circuit; text = c.self.inside.text.text } in
    subst (λ (s : StartData). IfOk c.begin.result (λ (d : SymbolData). (text : List ℕ) →
    valuations_at_start s ≡ valuations_of (read_of true (file.cut_line text) (file.lines_in text)) →
    ServesLines d (file.cut_line text) (before_stop (stop_of true (file.cut_line text) (file.lines_in text)) (file.lines_in text)))) c.self.view_is
    (answers_serves start c.begin.result c.begin.ensures.quiet c.begin.ensures.text c.begin.ensures.serves)

pub returns-clause-among : goal.returns-clause-among
returns-clause-among c =
    let start : StartData = record { circuit = c.self.inside.circuit; text = c.self.inside.text.text } in
    subst (λ (s : StartData). IfErr c.begin.result (λ (why : SymbolFault). (text : List ℕ) →
    valuations_at_start s ≡ valuations_of (read_of true (file.cut_line text) (file.lines_in text)) →
    StopsAmong (before_stop (stop_of true (file.cut_line text) (file.lines_in text)) (file.lines_in text)) why)) c.self.view_is
    (among_alike start c.items.result.now c.begin.result (c.items.ensures ∙ c.self.invariant) c.begin.ensures.own c.begin.ensures.some)

pub returns-clause-unwritten : goal.returns-clause-unwritten
returns-clause-unwritten c = unwritten_fault 1 c.begin.result c.begin.ensures.own
