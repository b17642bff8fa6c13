-- What a run of a script shows, where the traces of two runs differ, and the verdict on that.
use Rattle.std.specs.Prelude.{◌≡◌, ℕ, ◌+◌, ◌<◌, ◌⊎◌, Bool, true, false, List, slice_get, Option, Some, None}
use Rattle.ternary.specs.declared.tern.Tern.{Tern}
use Rattle.ternary.specs.declared.tern.Tern.TheVariants.{Zero, One, Unk}
use Rattle.fault_sim.specs.declared.verdicts.Verdict.{Verdict}
use Rattle.fault_sim.specs.declared.verdicts.Verdict.TheVariants.{Detected, Refused, Possible, Undetected}

-- the trace of a run: what its waveform lines show, a row for each, what the nodes of the watch list are called at its end, and the line of
-- the script that was refused, if one was
pub record Trace : Type 0 where
  pub rows : List (List Tern)
  pub names : List (List ℕ)
  pub refused : Option ℕ

-- the good value and the fault's differ: strongly if one is 0 and the other 1, weakly where the good one is 0 or 1 and the fault's is X
abbrev pub differs : Bool → Tern → Tern → Bool
differs true Zero One = true
differs true One Zero = true
differs false Zero Unk = true
differs false One Unk = true
differs strong good bad = false

-- at this entry of the watch list, counted from 0, which both rows have, they differ so
pub record DifferAt (strong : Bool) (good bad : List Tern) (entry : ℕ) : Type 0 where
  pub good_value : Tern
  pub bad_value : Tern
  pub in_good : slice_get good entry ≡ Some good_value
  pub in_bad : slice_get bad entry ≡ Some bad_value
  pub differ : differs strong good_value bad_value ≡ true

-- two rows differ so at this entry, and at none before it
pub record DifferFirstAt (strong : Bool) (good bad : List Tern) (entry : ℕ) : Type 0 where
  pub here : DifferAt strong good bad entry
  pub none_before : (other : ℕ) → other < entry → ¬ DifferAt strong good bad other

-- they differ so at no entry
abbrev pub AreAlikeRows : Bool → List Tern → List Tern → Type 0
AreAlikeRows strong good bad = (entry : ℕ) → ¬ DifferAt strong good bad entry

-- at this place, a row and an entry counted from 0, which both have, they differ so
pub record IsDifference (strong : Bool) (good bad : List (List Tern)) (row entry : ℕ) : Type 0 where
  pub good_row : List Tern
  pub bad_row : List Tern
  pub in_good : slice_get good row ≡ Some good_row
  pub in_bad : slice_get bad row ≡ Some bad_row
  pub differ : DifferAt strong good_row bad_row entry

-- places go by rows, then by entries
abbrev pub IsBefore : ℕ → ℕ → ℕ → ℕ → Type 0
IsBefore row entry other_row other_entry = (row < other_row) ⊎ ((row ≡ other_row) × (entry < other_entry))

-- they differ so at no place
abbrev pub AreAlike : Bool → List (List Tern) → List (List Tern) → Type 0
AreAlike strong good bad = (row entry : ℕ) → ¬ IsDifference strong good bad row entry

-- they differ so at this place, and at none before it
pub record DifferFirst (strong : Bool) (good bad : List (List Tern)) (row entry : ℕ) : Type 0 where
  pub here : IsDifference strong good bad row entry
  pub none_before : (other_row other_entry : ℕ) → IsBefore other_row other_entry row entry → ¬ IsDifference strong good bad other_row other_entry

-- the first place at which they differ so is in the row of this number, counted from 1
pub record FirstInRow (strong : Bool) (good bad : List (List Tern)) (number entry : ℕ) : Type 0 where
  pub row : ℕ
  pub numbered : number ≡ row + 1
  pub first : DifferFirst strong good bad row entry

-- the verdict on a trace beside the good one is the first of these that holds: at the first strong difference it is detected; it is refused
-- if it has a refused line; at the first weak difference it is possible; else it is undetected
abbrev pub IsVerdict : Trace → Trace → Verdict → Type 0
IsVerdict good bad (Detected row entry) = FirstInRow true good.rows bad.rows row entry
IsVerdict good bad (Refused line) = AreAlike true good.rows bad.rows × (bad.refused ≡ Some line)
IsVerdict good bad (Possible row entry) =
    AreAlike true good.rows bad.rows × (bad.refused ≡ None) × FirstInRow false good.rows bad.rows row entry
IsVerdict good bad Undetected =
    AreAlike true good.rows bad.rows × (bad.refused ≡ None) × AreAlike false good.rows bad.rows
