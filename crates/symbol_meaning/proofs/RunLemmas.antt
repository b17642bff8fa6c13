-- A script that runs in all columns runs in each as a plain script.
use Rattle.std.proofs.Common.{ℕ, Bool, List, ◌∷◌, ◌++◌, Option, refl, ap}
use Rattle.group_text.specs.Texts.{GroupTextData}
use Rattle.told_lines.specs.Lines.{Line}
use Rattle.session_meaning.specs.Sessions.{SessionData}
use Rattle.script_meaning.specs.Runs.{RefusedLine, after_command, at_end, refused_at}
use Rattle.script_meaning.specs.Runs.Runs.{ends as run_ends, passes as run_passes, obeys as run_obeys, refuses as run_refuses}
use Rattle.script_meaning.specs.FirstRefused.{IsObeyed}
use Rattle.script_meaning.specs.FirstRefused.IsObeyed.{idle, done}
use Rattle.symbol_meaning.specs.Readings.{reading_under}
use Rattle.symbol_meaning.specs.Runs.RunsInAll.{ends, obeys, refuses}
use Rattle.symbol_meaning.specs.Laws.{IsRunOf, ValuationsRunPlainScripts}

-- a line that is obeyed, and then what the others come to
obeyed_first : (quiet : Bool) (values : List ℕ → Bool) (cut : Option ℕ) (old mid end : SessionData) (line : ℕ × List ℕ) (lines : List (ℕ × List ℕ)) (wrote : List Line)
    (texts others : List GroupTextData) (last : Option RefusedLine) → IsObeyed (reading_under quiet values) cut old line mid wrote texts →
    IsRunOf quiet values cut mid lines end others last → IsRunOf quiet values cut old (line ∷ lines) end (texts ++ others) last
obeyed_first quiet values cut old mid end line lines wrote texts others last (idle nothing) rest = record {
  outcome = rest.outcome;
  runs = run_passes old line lines rest.outcome nothing rest.runs;
  reached = rest.reached;
  analysed = rest.analysed;
  stopped = rest.stopped;
}
obeyed_first quiet values cut old mid end line lines wrote texts others last (done command new lines_wrote own asks performs) rest = record {
  outcome = after_command wrote texts rest.outcome;
  runs = run_obeys old mid line lines command wrote texts rest.outcome asks performs rest.runs;
  reached = rest.reached;
  analysed = ap (λ (more : List GroupTextData). texts ++ more) rest.analysed;
  stopped = rest.stopped;
}

pub columns_run : ValuationsRunPlainScripts
columns_run quiet v cut start lines end told texts last (ends sessions) column inside = record {
  outcome = at_end (start column);
  runs = run_ends (start column);
  reached = refl;
  analysed = refl;
  stopped = refl;
}
columns_run quiet v cut start lines end told texts last (obeys old mid new line others wrote more own rest stop obeyed runs) column inside =
    obeyed_first quiet (v.values column) cut (old column) (mid column) (new column) line others (obeyed.lines column) own rest stop (obeyed.each column inside)
    (columns_run quiet v cut mid others new more rest stop runs column inside)
columns_run quiet v cut start lines end told texts last (refuses sessions line others cause refused) column inside = record {
  outcome = refused_at (sessions column) line.0 cause;
  runs = run_refuses (sessions column) line others cause (refused column inside);
  reached = refl;
  analysed = refl;
  stopped = refl;
}
