-- A run that was compared with a good one as its lines came has the verdict on its trace.
use Rattle.std.specs.Prelude.{◌≡◌, ℕ, List}
use Rattle.told_lines.specs.Lines.{Line}
use Rattle.told_lines.specs.Hearing.{hear_all, of_column}
use Rattle.told_lines.specs.Noting.{WaveRowData, rows_of, states_of}
use Rattle.fault_sim.specs.Traces.{Trace, IsVerdict}
use Rattle.told_verdicts.specs.Comparing.{uncompared, compared, verdict_by}

-- the verdict on a trace beside a good one is what the comparison of the run's lines with the good rows comes to, with the line that was refused,
-- if one was
abbrev pub VerdictsAreCompared : Type 0
VerdictsAreCompared =
    (good bad : Trace) (rows : List WaveRowData) (column : ℕ) (lines : List Line) → good.rows ≡ states_of rows → bad.rows ≡ states_of (rows_of lines) →
    let end = hear_all compared (uncompared rows) (of_column column lines) in IsVerdict good bad (verdict_by end.strong bad.refused end.weak)
