-- The letter of the one column is the first; and what is written over the first count is the count.
use Rattle.std.proofs.Common.{◌≡◌, ℕ, ◌<◌, Bool, true, false, List, [], ◌∷◌, length, refl, sym, ap, ◌∙◌, arith}
use Rattle.std.specs.Prelude.{◌==◌, slice_index_or, slice_set, if◌then◌else◌}
use Rattle.ternary.specs.declared.tern.Tern.{Tern}
use Rattle.switch_paths.specs.Graphs.{GraphData}
use Rattle.switch_paths.specs.Switching.{state_at}
use Rattle.settling.specs.declared.settling.Settled.{Settled}
use Rattle.column_stage.specs.Columns.{letter_in}
use Rattle.machine_stage.specs.Machines.{StageData}
use Rattle.machine_stage.specs.Stages.{MovesBy, RestsWith, TakesPhase}

-- whether there is one letter or there are more, the first column has the first
either : (alone : Bool) (letter : Tern) → letter ≡ (if alone then letter else letter)
either true letter = refl
either false letter = refl

pub first_letter : (letters : List Tern) → state_at letters 0 ≡ letter_in 0 letters
first_letter letters = either (length letters == 1) (state_at letters 0)

-- and there is no other column
pub letter_of_column : (column : ℕ) (letters : List Tern) → column < 1 → (node : ℕ) (old new : List Tern) →
    new ≡ slice_set old node (state_at letters 0) →
    new ≡ slice_set old node (letter_in column letters)
letter_of_column column letters inside node old new set =
    let first : column ≡ 0 = omega (arith, inside) in
    set ∙ ap (slice_set old node) (first_letter letters) ∙ ap (λ (n : ℕ). slice_set old node (letter_in n letters)) (sym first)

-- a count that was written over the one that stood there
pub rests_first : (g : GraphData) (limit : ℕ) (counts : List Settled) (count : Settled) (old new : StageData) → length counts ≡ 1 →
    MovesBy (λ before after. TakesPhase g limit before after count.steps count.joined) old new → RestsWith g limit (slice_set counts 0 count) old new
rests_first g limit [] count old new one moves = absurd (omega (arith, one))
rests_first g limit (first ∷ counts) count old new one moves = moves

-- stands there
pub first_count : (counts : List Settled) (count past : Settled) → length counts ≡ 1 → slice_index_or (slice_set counts 0 count) 0 past ≡ count
first_count [] count past one = absurd (omega (arith, one))
first_count (first ∷ counts) count past one = refl
