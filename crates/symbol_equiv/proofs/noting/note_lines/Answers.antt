-- Each line is noted, or ends the run.
use Rattle.std.proofs.Common.{◌≡◌, ◌∙◌, ℕ, ◌<◌, true, List, ◌∷◌, Ok, ap, sym, subst, refl}
use Rattle.std.specs.List.{enumerate_from}
use Rattle.line_words.specs.Files as file
use Rattle.line_words.specs.Lines.{lines_of}
use Rattle.script_meaning.specs.declared.turn.Turn.{Turn}
use Rattle.script_meaning.specs.declared.turn.Turn.TheVariants.{Accepted, Refused, TooLarge}
use Rattle.symbol_meaning.specs.Readings.{Valuations}
use Rattle.symbol_meaning.specs.Scripts.{before_stop}
use Rattle.truth_parts.proofs.KeptLemmas.{passed_on}
use Rattle.symbol_reading.proofs.ReadingLemmas.{rises-enumerated, Rises}
use Rattle.symbol_comparing.specs.Told.{AreValuationsOf}
use Rattle.symbol_run.proofs.RunLemmas.{Numbered, here_left, none_first, past_all, rises_on}
use Rattle.symbol_equiv.specs.Lines.{TakesTurnNoted}
use Rattle.symbol_equiv.specs.Notes.{StillShow}
use Rattle.symbol_equiv.proofs.KeptLemmas.{notes_kept, still_then, valued_later}
use Rattle.symbol_equiv.proofs.LineLemmas.{tidied_line}
use Rattle.symbol_equiv.proofs.RunLemmas.{Noting, noting_among, noting_end, noting_large, noting_on, noting_refused, noting_start, noting_to}
use Rattle.symbol_equiv.proofs.noting.note_lines.Given.{Over}
use Rattle.symbol_equiv.proofs.noting.note_lines.Goals.{After-note_line, In_ok-note_line}
use Rattle.symbol_equiv.proofs.noting.note_lines.Goals as goal

pub loop-line-init : goal.loop-line-init
loop-line-init g c =
    let first = c.into_iter-line-iterator.ensures.into_iter_gives ∙ c.lines-line-items.ensures.numbered
    ∙ ap (λ (front : List ℕ). enumerate_from 1 (lines_of front)) c.front.ensures in
    let all = ap (before_stop c.args.stop) (sym first) in
    let session = c.args.session.now in
    record {
      rises = subst (Rises 0) (sym first) (rises-enumerated 0 (lines_of (file.front_of c.args.text.now)));
      noting = noting_to (g.M.SharesMaker.maker session) (g.M.LineSession.valuations session) c.cut_line-cut.result (g.M.LineSession.sessions session)
          (before_stop c.args.stop (file.lines_in c.args.text.now)) c.args.kept.now (g.A.Analyst.analysed c.args.analyst.now) (g.M.SharesMaker.maker session)
          (g.M.LineSession.sessions session) c.args.kept.now c.args.notes.now (g.A.Analyst.analysed c.args.analyst.now) _ _ all
          (noting_start (g.M.SharesMaker.maker session) (g.M.LineSession.valuations session) c.cut_line-cut.result (g.M.LineSession.sessions session)
          (before_stop c.args.stop (file.lines_in c.args.text.now)) c.args.kept.now (g.A.Analyst.analysed c.args.analyst.now) c.args.notes.now c.requires.none
          c.requires.valued c.requires.kept);
      serves = subst (g.M.LineSession.serves session c.cut_line-cut.result) all (rw c.cut_line-cut.ensures c.requires.serves);
      quiet = c.requires.quiet;
      valuations = refl;
    }

pub note_line-requires-clause-quiet : goal.note_line-requires-clause-quiet
note_line-requires-clause-quiet g c = c.loop-line.invariant.quiet

pub note_line-requires-clause-valued : goal.note_line-requires-clause-valued
note_line-requires-clause-valued g c =
    subst (AreValuationsOf (g.M.SharesMaker.maker c.loop-line.session)) (sym c.loop-line.invariant.valuations) c.loop-line.invariant.noting.valued

pub note_line-requires-clause-noted : goal.note_line-requires-clause-noted
note_line-requires-clause-noted g c = c.loop-line.invariant.noting.whole

-- ---- once a line was noted

-- the line, and the lines behind it
abbrev left : (g : Over) → After-note_line g → Numbered
left g c = (c.in-Some.line.number, c.in-Some.line.bytes.now) ∷ before_stop c.args.stop c.next.new.self

left_is : (g : Over) (c : After-note_line g) → before_stop c.args.stop c.loop-line.line-iterator ≡ left g c
left_is g c = here_left c.args.stop _ _ _ c.is_past.result c.in-Some.ensures.steps c.is_past.ensures c.if-is_past.false

-- what was noted before it
so : (g : Over) (c : After-note_line g) →
    Noting (g.M.SharesMaker.maker c.args.session.now) (g.M.SharesMaker.maker c.loop-line.session) (g.M.LineSession.valuations c.args.session.now)
    c.cut_line-cut.result (g.M.LineSession.sessions c.args.session.now) (before_stop c.args.stop (file.lines_in c.args.text.now))
    (g.M.LineSession.sessions c.loop-line.session) (left g c) c.args.kept.now c.loop-line.kept c.loop-line.notes
    (g.A.Analyst.analysed c.args.analyst.now) (g.A.Analyst.analysed c.loop-line.analyst)
so g c =
    noting_to _ _ _ (g.M.LineSession.sessions c.args.session.now) _ _ _ _ (g.M.LineSession.sessions c.loop-line.session) _ _ _ _ _ (left_is g c)
    c.loop-line.invariant.noting

-- its turn, by valuations
abbrev Takes : (g : Over) → After-note_line g → Valuations → Turn → Type 0
Takes g c v taken =
    TakesTurnNoted (g.M.SharesMaker.maker c.loop-line.session) (g.M.SharesMaker.maker c.note_line.new.session) true v c.cut_line-cut.result
    (g.M.LineSession.sessions c.loop-line.session) (c.in-Some.line.number, c.in-Some.line.bytes.now) (g.M.LineSession.sessions c.note_line.new.session)
    c.loop-line.notes c.note_line.new.notes (g.A.Analyst.analysed c.loop-line.analyst) (g.A.Analyst.analysed c.note_line.new.analyst) (Ok taken)

-- a line that is left is served
serves : (g : Over) (c : After-note_line g) → g.M.LineSession.serves c.loop-line.session c.cut_line-cut.result (left g c)
serves g c = subst (g.M.LineSession.serves c.loop-line.session c.cut_line-cut.result) (left_is g c) c.loop-line.invariant.serves

-- the turn by the valuations as they were at first
turn : (g : Over) (c : After-note_line g) (found taken : Turn) → found ≡ taken → Takes g c (g.M.LineSession.valuations c.loop-line.session) found →
    Takes g c (g.M.LineSession.valuations c.args.session.now) taken
turn g c found taken same is =
    subst (λ (v : Valuations). Takes g c v taken) c.loop-line.invariant.valuations (subst (Takes g c (g.M.LineSession.valuations c.loop-line.session)) same is)

-- behind it the valuations are those of the maker, and what was kept shows what it showed
valued : (g : Over) (c : In_ok-note_line g) → AreValuationsOf (g.M.SharesMaker.maker c.note_line.new.session) (g.M.LineSession.valuations c.args.session.now)
valued g c =
    valued_later (g.M.SharesMaker.maker c.loop-line.session) (g.M.SharesMaker.maker c.note_line.new.session)
    (g.M.LineSession.valuations c.args.session.now) c.in_ok-note_line.ensures.keeps.count c.loop-line.invariant.noting.valued

kept : (g : Over) (c : In_ok-note_line g) →
    StillShow (g.M.SharesMaker.maker c.loop-line.session) (g.M.SharesMaker.maker c.note_line.new.session) c.loop-line.kept c.loop-line.kept
kept g c =
    notes_kept (g.M.SharesMaker.maker c.loop-line.session) (g.M.SharesMaker.maker c.note_line.new.session) c.in_ok-note_line.ensures.keeps
    c.loop-line.kept c.loop-line.invariant.noting.still.whole

still : (g : Over) (c : In_ok-note_line g) →
    StillShow (g.M.SharesMaker.maker c.args.session.now) (g.M.SharesMaker.maker c.note_line.new.session) c.args.kept.now c.loop-line.kept
still g c =
    still_then (g.M.SharesMaker.maker c.args.session.now) (g.M.SharesMaker.maker c.loop-line.session) (g.M.SharesMaker.maker c.note_line.new.session)
    c.args.kept.now c.loop-line.kept c.loop-line.kept c.loop-line.invariant.noting.columns c.loop-line.invariant.noting.still (kept g c)

pub tidy-requires-clause-kept : goal.tidy-requires-clause-kept
tidy-requires-clause-kept g c = (kept g (goal.at.tidy-requires-clause-kept g c).In_ok-note_line).whole

pub tidy-requires-clause-noted : goal.tidy-requires-clause-noted
tidy-requires-clause-noted g c =
    let at = (goal.at.tidy-requires-clause-noted g c).After-note_line in
    (turn g at _ Accepted c.in-Accepted.is (c.in_ok-note_line.ensures.turn _ (serves g at))).whole

pub loop-line-preserved : goal.loop-line-preserved
loop-line-preserved g c =
    let at = (goal.at.loop-line-preserved g c).After-note_line in
    let ok = (goal.at.loop-line-preserved g c).In_ok-note_line in
    let inv = c.loop-line.invariant in
    let v = g.M.LineSession.valuations c.args.session.now in
    let now = g.M.SharesMaker.maker c.loop-line.session in
    let mid = g.M.SharesMaker.maker c.note_line.new.session in
    let new = g.M.SharesMaker.maker c.tidy.new.session in
    let count = c.in_ok-note_line.ensures.keeps.count in
    let same = sym inv.noting.valued.columns in
    let takes = tidied_line v c.cut_line-cut.result (g.M.LineSession.sessions c.loop-line.session) (c.in-Some.line.number, c.in-Some.line.bytes.now) now same
    c.loop-line.notes (g.A.Analyst.analysed c.loop-line.analyst) (g.A.Analyst.analysed c.note_line.new.analyst) mid new
    (g.M.LineSession.sessions c.note_line.new.session) (g.M.LineSession.sessions c.tidy.new.session) c.note_line.new.notes c.tidy.new.notes (count ∙ same)
    (λ column inside. c.tidy.ensures.sessions column
    (subst (λ (own : Valuations). column < own.columns) (sym (c.note_line.ensures.valuations ∙ inv.valuations)) inside)) c.tidy.ensures.noted
    (turn g at _ Accepted c.in-Accepted.is (c.in_ok-note_line.ensures.turn _ (serves g at))) in
    record {
      rises = rises_on (c.in-Some.line.number, c.in-Some.line.bytes.now) c.next.new.self (subst (Rises 0) c.in-Some.ensures.steps inv.rises);
      noting = noting_on _ _ _ (g.M.LineSession.sessions c.args.session.now) _ _ _ _ (g.M.LineSession.sessions c.loop-line.session) _ _ _ _ _ (so g at) new
          (g.M.LineSession.sessions c.tidy.new.session) c.tidy.new.kept c.tidy.new.notes (g.A.Analyst.analysed c.note_line.new.analyst) takes
          (valued_later mid new v c.tidy.ensures.columns (valued g ok))
          (still_then now mid new c.loop-line.kept c.loop-line.kept c.tidy.new.kept count (kept g ok) c.tidy.ensures.kept);
      serves = c.tidy.ensures.serves _ _
          (c.note_line.ensures.serves _ (serves g at) (c.in_ok-note_line.was ∙ ap (λ (taken : Turn). Ok taken) c.in-Accepted.is));
      quiet = c.tidy.ensures.quiet ∙ c.note_line.ensures.quiet ∙ inv.quiet;
      valuations = c.tidy.ensures.valuations ∙ c.note_line.ensures.valuations ∙ inv.valuations;
    }

pub returns-then-is_past-clause-told : goal.returns-then-is_past-clause-told
returns-then-is_past-clause-told g c =
    let none = past_all c.args.stop (c.in-Some.line.number, c.in-Some.line.bytes.now) c.next.new.self _ c.in-Some.ensures.steps c.loop-line.invariant.rises
    (sym c.is_past.ensures ∙ c.if-is_past.true) in
    rw (sym c.cut_line-cut.ensures)
    (noting_end _ _ _ (g.M.LineSession.sessions c.args.session.now) _ _ _ _ (g.M.LineSession.sessions c.loop-line.session) _ _ _
    (noting_to _ _ _ (g.M.LineSession.sessions c.args.session.now) _ _ _ _ (g.M.LineSession.sessions c.loop-line.session) _ _ _ _ _ none c.loop-line.invariant.noting))

pub returns-then-is_past-clause-valued : goal.returns-then-is_past-clause-valued
returns-then-is_past-clause-valued g c = c.loop-line.invariant.noting.valued

pub returns-then-is_past-clause-still : goal.returns-then-is_past-clause-still
returns-then-is_past-clause-still g c = c.loop-line.invariant.noting.still

pub returns-in-Refused-clause-told : goal.returns-in-Refused-clause-told
returns-in-Refused-clause-told g c =
    let at = (goal.at.returns-in-Refused-clause-told g c).After-note_line in
    let takes = turn g at _ (Refused c.in-Refused.code) c.in-Refused.is (c.in_ok-note_line.ensures.turn _ (serves g at)) in
    rw (sym c.cut_line-cut.ensures)
    (noting_refused _ _ _ (g.M.LineSession.sessions c.args.session.now) _ _ _ _ (g.M.LineSession.sessions c.loop-line.session) _ _ _ _ _ (so g at)
    c.in-Refused.code (g.M.SharesMaker.maker c.note_line.new.session) (g.M.LineSession.sessions c.note_line.new.session)
    c.note_line.new.notes (g.A.Analyst.analysed c.note_line.new.analyst) takes.0 takes.1)

pub returns-in-TooLarge-clause-told : goal.returns-in-TooLarge-clause-told
returns-in-TooLarge-clause-told g c =
    let at = (goal.at.returns-in-TooLarge-clause-told g c).After-note_line in
    let takes = turn g at _ (TooLarge c.in-TooLarge.fault) c.in-TooLarge.is (c.in_ok-note_line.ensures.turn _ (serves g at)) in
    rw (sym c.cut_line-cut.ensures)
    (noting_large _ _ _ (g.M.LineSession.sessions c.args.session.now) _ _ _ _ (g.M.LineSession.sessions c.loop-line.session) _ _ _ _ _ (so g at)
    c.in-TooLarge.fault (g.M.SharesMaker.maker c.note_line.new.session) (g.M.LineSession.sessions c.note_line.new.session)
    c.note_line.new.notes (g.A.Analyst.analysed c.note_line.new.analyst) takes.0 takes.1)

pub returns-in-Refused-clause-valued : goal.returns-in-Refused-clause-valued
returns-in-Refused-clause-valued g c = valued g (goal.at.returns-in-Refused-clause-valued g c).In_ok-note_line

pub returns-in-Refused-clause-still : goal.returns-in-Refused-clause-still
returns-in-Refused-clause-still g c = still g (goal.at.returns-in-Refused-clause-still g c).In_ok-note_line

pub returns-in-TooLarge-clause-valued : goal.returns-in-TooLarge-clause-valued
returns-in-TooLarge-clause-valued g c = valued g (goal.at.returns-in-TooLarge-clause-valued g c).In_ok-note_line

pub returns-in-TooLarge-clause-still : goal.returns-in-TooLarge-clause-still
returns-in-TooLarge-clause-still g c = still g (goal.at.returns-in-TooLarge-clause-still g c).In_ok-note_line

pub returns-in_err-note_line-clause-among : goal.returns-in_err-note_line-clause-among
returns-in_err-note_line-clause-among g c =
    let at = (goal.at.returns-in_err-note_line-clause-among g c).After-note_line in
    passed_on _ c.from_residual.result _ c.from_residual.ensures.1
    (noting_among _ _ _ (g.M.LineSession.sessions c.args.session.now) _ _ _ _ (g.M.LineSession.sessions c.loop-line.session) _ _ _ _ _ (so g at) _
    c.in_err-note_line.ensures.number)

pub returns-in_err-note_line-clause-unwritten : goal.returns-in_err-note_line-clause-unwritten
returns-in_err-note_line-clause-unwritten g c = passed_on _ c.from_residual.result _ c.from_residual.ensures.1 c.in_err-note_line.ensures.unwritten

pub returns-clause-told : goal.returns-clause-told
returns-clause-told g c =
    let none = ap (before_stop c.args.stop) c.in-None.ensures.steps.0 ∙ none_first c.args.stop in
    rw (sym c.cut_line-cut.ensures)
    (noting_end _ _ _ (g.M.LineSession.sessions c.args.session.now) _ _ _ _ (g.M.LineSession.sessions c.loop-line.session) _ _ _
    (noting_to _ _ _ (g.M.LineSession.sessions c.args.session.now) _ _ _ _ (g.M.LineSession.sessions c.loop-line.session) _ _ _ _ _ none
    c.loop-line.invariant.noting))

pub returns-clause-valued : goal.returns-clause-valued
returns-clause-valued g c = c.loop-line.invariant.noting.valued

pub returns-clause-still : goal.returns-clause-still
returns-clause-still g c = c.loop-line.invariant.noting.still
