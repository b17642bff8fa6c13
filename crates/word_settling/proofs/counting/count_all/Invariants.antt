-- The columns below the index are counted, and the others not yet.
use Rattle.std.proofs.Common.{◌≡◌, ℕ, ◌<◌, ◌≤◌, get_or}
use Rattle.word_columns.specs.Columns.{is_in_column}
use Rattle.settling.specs.declared.settling.Settled.{Settled}
use Rattle.word_settling.specs.Settling.{counted}
use Rattle.word_settling.proofs.counting.count_all.Given as goal

abbrev pub invariant-loop-column : goal.invariant-loop-column
invariant-loop-column l = record {
  done : (column : ℕ) (past : Settled) → column < l.column → get_or l.out column past ≡ counted (is_in_column column l.changed) l.joining (get_or l.initial.out column past);
  left : (column : ℕ) (past : Settled) → l.column ≤ column → get_or l.out column past ≡ get_or l.initial.out column past;
}
