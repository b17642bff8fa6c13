-- The waveform rows of a run, compared with those of a good one as they come: where they differ first, strongly and weakly.
use Rattle.std.specs.Prelude.{ℕ, suc, ◌+◌, Bool, true, false, List, [], ◌∷◌, Option, Some, None, if◌then◌else◌}
use Rattle.ternary.specs.declared.tern.Tern.{Tern}
use Rattle.told_lines.specs.Lines.{Line, Wave, Told}
use Rattle.told_lines.specs.Noting.{WaveRowData}
use Rattle.fault_sim.specs.declared.verdicts.Verdict.{Verdict}
use Rattle.fault_sim.specs.declared.verdicts.Verdict.TheVariants.{Detected, Refused, Possible, Undetected}
use Rattle.fault_sim.specs.Traces.{differs}
use Rattle.told_verdicts.specs.declared.compare.Place.{Place}

-- an entry that is one further on
abbrev pub one_on : Option ℕ → Option ℕ
one_on None = None
one_on (Some entry) = Some (suc entry)

-- the first entry at which two rows differ so, strongly or weakly, if they do
abbrev pub first_entry : Bool → List Tern → List Tern → Option ℕ
first_entry strong [] bad = None
first_entry strong (value ∷ good) [] = None
first_entry strong (value ∷ good) (other ∷ bad) = if differs strong value other then Some 0 else one_on (first_entry strong good bad)

-- the place of an entry in the row of this number
abbrev pub place_in : ℕ → Option ℕ → Option Place
place_in row None = None
place_in row (Some entry) = Some (record { row = row; entry = entry })

-- the place that was found before, or else a later one
abbrev pub place_or : Option Place → Option Place → Option Place
place_or None later = later
place_or (Some place) later = Some place

-- what a comparison has come to: the good rows that are left, how many were compared, and the first strong and the first weak difference
-- in these
pub record CompareData : Type 0 where
  pub left : List WaveRowData
  pub row : ℕ
  pub strong : Option Place
  pub weak : Option Place

-- nothing was compared with these rows so far
abbrev pub uncompared : List WaveRowData → CompareData
uncompared good = record { left = good; row = 0; strong = None; weak = None }

-- one row more is compared with the next of those that are left
abbrev pub with_row : List WaveRowData → CompareData → List Tern → CompareData
with_row [] old values = old
with_row (good ∷ left) old values = record {
  left = left;
  row = old.row + 1;
  strong = place_or old.strong (place_in (old.row + 1) (first_entry true good.values values));
  weak = place_or old.weak (place_in (old.row + 1) (first_entry false good.values values));
}

-- one line more is compared: a waveform line's row, and no other
abbrev pub compare_line : CompareData → Line → CompareData
compare_line old (Wave n k mark values) = with_row old.left old values
compare_line old line = old

abbrev pub compared : CompareData → Told → CompareData
compared old told = compare_line old told.line

-- the verdict by the first strong difference, the refused line and the first weak difference, the first of them that there is
abbrev pub verdict_by : Option Place → Option ℕ → Option Place → Verdict
verdict_by (Some place) refused weak = Detected place.row place.entry
verdict_by None (Some line) weak = Refused line
verdict_by None None (Some place) = Possible place.row place.entry
verdict_by None None None = Undetected
