-- The states of columns: several simulations of a circuit side by side.
use Rattle.std.specs.Prelude.{◌≡◌, ℕ, ◌-◌, ◌<◌, ◌==◌, ◌⊎◌, List, ◌++◌, length, replicate, All, IsTrue, if◌then◌else◌}
use Rattle.ternary.specs.declared.tern.Tern.{Tern}
use Rattle.ternary.specs.declared.tern.Tern.TheVariants.{Unk}
use Rattle.switch_paths.specs.Graphs.{GraphData, nodes}
use Rattle.switch_paths.specs.Rails.{IsSound}
use Rattle.switch_paths.specs.Switching.{state_at}
use Rattle.group_text.specs.Texts.{GroupTextData}
use Rattle.group_text.specs.FirstTexts.{is_among}

-- the letter of a column: one alone is that of all columns
abbrev pub letter_in : ℕ → List Tern → Tern
letter_in column letters = if length letters == 1 then state_at letters 0 else state_at letters column

-- one letter, or one for each column
abbrev pub IsLetters : ℕ → List Tern → Type 0
IsLetters columns letters = (length letters ≡ 1) ⊎ (length letters ≡ columns)

-- a state has one for each node, and the rails have theirs
pub record IsSoundState (g : GraphData) (state : List Tern) : Type 0 where
  pub counted : length state ≡ nodes g
  pub sound : IsSound state

-- so it is in each column
abbrev pub AreSound : GraphData → ℕ → (ℕ → List Tern) → Type 0
AreSound g columns states = (column : ℕ) → column < columns → IsSoundState g (states column)

-- the state with so many nodes: each new one is X
abbrev pub with_new_nodes : List Tern → ℕ → List Tern
with_new_nodes state count = state ++ replicate (count - length state) Unk

-- all of these texts are among those
abbrev pub AreAmong : List GroupTextData → List GroupTextData → Type 0
AreAmong texts kept = All (λ text. IsTrue (is_among kept text)) texts
