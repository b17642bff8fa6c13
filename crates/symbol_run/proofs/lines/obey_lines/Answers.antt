-- Each line is obeyed in all columns, or ends the run.
use Rattle.std.proofs.Common.{◌≡◌, ◌∙◌, ℕ, Bool, List, ◌∷◌, Result, Ok, Err, ap, sym, subst, refl}
use Rattle.std.specs.List.{enumerate_from}
use Rattle.std.proofs.lemmas.Result.{err_from_is_err_and}
use Rattle.line_words.specs.Files as file
use Rattle.line_words.specs.Lines.{lines_of}
use Rattle.symbol_meaning.specs.Readings.{Valuations}
use Rattle.symbol_meaning.specs.Scripts.{before_stop}
use Rattle.symbol_reading.proofs.ReadingLemmas.{rises-enumerated, Rises}
use Rattle.script_meaning.specs.declared.turn.Turn.{Turn}
use Rattle.script_meaning.specs.declared.turn.Turn.TheVariants.{Accepted, Refused, TooLarge}
use Rattle.symbol_run.specs.declared.session.SymbolFault.{SymbolFault}
use Rattle.symbol_run.specs.Turns.{TakesTurnInAll}
use Rattle.symbol_run.proofs.RunLemmas.{Come, Numbered, come_broken, come_end, come_large, come_on, come_refused, come_start, come_to, here_left, none_first, past_all, rises_on, stops_among}
use Rattle.symbol_run.proofs.lines.obey_lines.Given.{Over}
use Rattle.symbol_run.proofs.lines.obey_lines.Goals.{After-obey}
use Rattle.symbol_run.proofs.lines.obey_lines.Goals as goal

pub loop-line-init : goal.loop-line-init
loop-line-init g c =
    let first = c.into_iter-line-iterator.ensures.into_iter_gives ∙ c.lines-line-items.ensures.numbered
    ∙ ap (λ (front : List ℕ). enumerate_from 1 (lines_of front)) c.front.ensures in
    let all = ap (before_stop c.args.stop) (sym first) in
    record {
      rises = subst (Rises 0) (sym first) (rises-enumerated 0 (lines_of (file.front_of c.args.text.now)));
      come = come_to g.L.SymbolLines.hear g.L.SymbolLines.part _ _ _ _ _ _ _ _ _ _ _ _ all
          (come_start g.L.SymbolLines.hear g.L.SymbolLines.part (g.M.LineSession.quiet c.args.session.now) (g.M.LineSession.valuations c.args.session.now)
          c.cut_line-cut.result (g.M.LineSession.sessions c.args.session.now) (before_stop c.args.stop (file.lines_in c.args.text.now))
          (g.L.SymbolLines.heard c.args.out.now) (g.A.Analyst.analysed c.args.analyst.now));
      serves = subst (g.M.LineSession.serves c.args.session.now c.cut_line-cut.result) all
          (rw c.cut_line-cut.ensures c.requires);
      quiet = refl;
      valuations = refl;
      faults = refl;
      refusals = refl;
    }

-- ---- once a line was obeyed

-- the line, and what is left behind it
abbrev line_of : (g : Over) → After-obey g → ℕ × List ℕ
line_of g c = (c.in-Some.line.number, c.in-Some.line.bytes.now)

abbrev left_of : (g : Over) → After-obey g → Numbered
left_of g c = before_stop c.args.stop c.next.new.self

here : (g : Over) (c : After-obey g) → before_stop c.args.stop c.loop-line.line-iterator ≡ line_of g c ∷ left_of g c
here g c = here_left c.args.stop c.loop-line.line-iterator (line_of g c) c.next.new.self c.is_past.result c.in-Some.ensures.steps c.is_past.ensures c.if-is_past.false

serves : (g : Over) (c : After-obey g) → g.M.LineSession.serves c.loop-line.session c.cut_line-cut.result (line_of g c ∷ left_of g c)
serves g c = subst (g.M.LineSession.serves c.loop-line.session c.cut_line-cut.result) (here g c) c.loop-line.invariant.serves

-- what was run before it
come : (g : Over) (c : After-obey g) →
    Come g.L.SymbolLines.hear (g.M.LineSession.quiet c.args.session.now) (g.M.LineSession.valuations c.args.session.now) c.cut_line-cut.result
    (g.M.LineSession.sessions c.args.session.now) (before_stop c.args.stop (file.lines_in c.args.text.now)) (g.M.LineSession.sessions c.loop-line.session)
    (line_of g c ∷ left_of g c) (g.L.SymbolLines.heard c.args.out.now) (g.L.SymbolLines.heard c.loop-line.out) (g.A.Analyst.analysed c.args.analyst.now)
    (g.A.Analyst.analysed c.loop-line.analyst)
come g c = come_to g.L.SymbolLines.hear g.L.SymbolLines.part _ _ _ _ _ _ _ (g.M.LineSession.sessions c.loop-line.session) _ _ _ _ (here g c) c.loop-line.invariant.come

-- its turn, by whether the script is quiet and by valuations
abbrev Takes : (g : Over) → After-obey g → Bool → Valuations → Result Turn SymbolFault → Type 0
Takes g c quiet v ended =
    TakesTurnInAll g.L.SymbolLines.hear g.L.SymbolLines.part quiet v c.cut_line-cut.result (g.M.LineSession.sessions c.loop-line.session) (line_of g c) (left_of g c)
    (g.M.LineSession.sessions c.obey.new.self) (g.L.SymbolLines.heard c.loop-line.out) (g.L.SymbolLines.heard c.obey.new.out)
    (g.A.Analyst.analysed c.loop-line.analyst) (g.A.Analyst.analysed c.obey.new.analyst) ended

abbrev TakesNow : (g : Over) → After-obey g → Result Turn SymbolFault → Type 0
TakesNow g c ended = Takes g c (g.M.LineSession.quiet c.loop-line.session) (g.M.LineSession.valuations c.loop-line.session) ended

-- these are as they were at first
turn : (g : Over) (c : After-obey g) (ended : Result Turn SymbolFault) → TakesNow g c ended →
    Takes g c (g.M.LineSession.quiet c.args.session.now) (g.M.LineSession.valuations c.args.session.now) ended
turn g c ended is =
    subst (λ (v : Valuations). Takes g c (g.M.LineSession.quiet c.args.session.now) v ended) c.loop-line.invariant.valuations
    (subst (λ (quiet : Bool). Takes g c quiet (g.M.LineSession.valuations c.loop-line.session) ended) c.loop-line.invariant.quiet is)

pub loop-line-preserved : goal.loop-line-preserved
loop-line-preserved g c =
    let at = (goal.at.loop-line-preserved g c).After-obey in
    let inv = c.loop-line.invariant in
    let takes = turn g at (Ok Accepted) (subst (λ (taken : Turn). TakesNow g at (Ok taken)) c.in-Accepted.is (c.in_ok-obey.ensures.turn (left_of g at) (serves g at))) in
    record {
      rises = rises_on (line_of g at) c.next.new.self (subst (Rises 0) c.in-Some.ensures.steps inv.rises);
      come = come_on g.L.SymbolLines.hear g.L.SymbolLines.part _ _ _ _ _ _ _ (g.M.LineSession.sessions c.loop-line.session) (line_of g at) (left_of g at) _ _ (come g at)
          (g.M.LineSession.sessions c.obey.new.self) _ _ takes;
      serves = c.obey.ensures.serves (left_of g at) (serves g at) (c.in_ok-obey.was ∙ ap (λ (taken : Turn). Ok taken) c.in-Accepted.is);
      quiet = c.obey.ensures.quiet ∙ inv.quiet;
      valuations = c.obey.ensures.valuations ∙ inv.valuations;
      faults = c.in_ok-obey.ensures.write ∙ inv.faults;
      refusals = c.in_ok-obey.ensures.refused ∙ inv.refusals;
    }

pub returns-then-is_past-clause-told : goal.returns-then-is_past-clause-told
returns-then-is_past-clause-told g c =
    let none = past_all c.args.stop _ _ _ c.in-Some.ensures.steps c.loop-line.invariant.rises (sym c.is_past.ensures ∙ c.if-is_past.true) in
    rw (sym c.cut_line-cut.ensures)
    (come_end g.L.SymbolLines.hear g.L.SymbolLines.part _ _ _ _ _ _ _ (g.M.LineSession.sessions c.loop-line.session) _ _
    (come_to g.L.SymbolLines.hear g.L.SymbolLines.part _ _ _ _ _ _ _ (g.M.LineSession.sessions c.loop-line.session) _ _ _ _ none c.loop-line.invariant.come))

pub returns-in-Refused-clause-told : goal.returns-in-Refused-clause-told
returns-in-Refused-clause-told g c =
    let at = (goal.at.returns-in-Refused-clause-told g c).After-obey in
    let takes = turn g at (Ok (Refused c.in-Refused.code)) (subst (λ (taken : Turn). TakesNow g at (Ok taken)) c.in-Refused.is (c.in_ok-obey.ensures.turn (left_of g at) (serves g at))) in
    rw (sym c.cut_line-cut.ensures)
    (come_refused g.L.SymbolLines.hear g.L.SymbolLines.part _ _ _ _ _ _ _ (g.M.LineSession.sessions c.loop-line.session) (line_of g at) (left_of g at) _ _ (come g at) _ (g.M.LineSession.sessions c.obey.new.self) _ _
    takes.0 takes.1)

pub returns-in-TooLarge-clause-told : goal.returns-in-TooLarge-clause-told
returns-in-TooLarge-clause-told g c =
    let at = (goal.at.returns-in-TooLarge-clause-told g c).After-obey in
    let takes = turn g at (Ok (TooLarge c.in-TooLarge.fault)) (subst (λ (taken : Turn). TakesNow g at (Ok taken)) c.in-TooLarge.is (c.in_ok-obey.ensures.turn (left_of g at) (serves g at))) in
    rw (sym c.cut_line-cut.ensures)
    (come_large g.L.SymbolLines.hear g.L.SymbolLines.part _ _ _ _ _ _ _ (g.M.LineSession.sessions c.loop-line.session) (line_of g at) (left_of g at) _ _ (come g at) c.in-TooLarge.fault (g.M.LineSession.sessions c.obey.new.self) _ _
    takes.0 takes.1)

pub returns-in_err-obey-clause-told : goal.returns-in_err-obey-clause-told
returns-in_err-obey-clause-told g c =
    let at = (goal.at.returns-in_err-obey-clause-told g c).After-obey in
    let takes = turn g at (Err c.in_err-obey.field-0.0) (c.in_err-obey.ensures.turn (left_of g at) (serves g at)) in
    let stopped = err_from_is_err_and c.from_residual.result c.from_residual.ensures.1 in
    rw stopped.1
    (rw (sym c.cut_line-cut.ensures) (come_broken g.L.SymbolLines.hear g.L.SymbolLines.part _ _ _ _ _ _ _ (g.M.LineSession.sessions c.loop-line.session) (line_of g at) (left_of g at) _ _ (come g at) _ takes))

pub returns-in_err-obey-clause-among : goal.returns-in_err-obey-clause-among
returns-in_err-obey-clause-among g c =
    let at = (goal.at.returns-in_err-obey-clause-among g c).After-obey in
    let stopped = err_from_is_err_and c.from_residual.result c.from_residual.ensures.1 in
    rw (stopped.1, stopped.2) (stops_among g.L.SymbolLines.hear g.L.SymbolLines.part _ _ _ _ _ _ _ (g.M.LineSession.sessions c.loop-line.session) (line_of g at) (left_of g at) _ _ (come g at) _ c.in_err-obey.ensures.number)

pub returns-clause-told : goal.returns-clause-told
returns-clause-told g c =
    let none = ap (before_stop c.args.stop) c.in-None.ensures.steps.0 ∙ none_first c.args.stop in
    rw (sym c.cut_line-cut.ensures)
    (come_end g.L.SymbolLines.hear g.L.SymbolLines.part _ _ _ _ _ _ _ (g.M.LineSession.sessions c.loop-line.session) _ _
    (come_to g.L.SymbolLines.hear g.L.SymbolLines.part _ _ _ _ _ _ _ (g.M.LineSession.sessions c.loop-line.session) _ _ _ _ none c.loop-line.invariant.come))
