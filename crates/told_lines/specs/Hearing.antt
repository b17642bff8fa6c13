-- What lines that were told come to, by what one line more does. A line may be of any type.
use Rattle.std.specs.Prelude.{◌≡◌, ℕ, zero, suc, ◌+◌, ◌⊎◌, List, [], ◌∷◌, ◌++◌, map, Result, Ok, Err}
use Rattle.told_lines.specs.Lines.{Line, Told}

-- after these lines, one after the other
abbrev pub hear_all : {H A : Type 0} → (H → A → H) → H → List A → H
hear_all hear before [] = before
hear_all hear before (told ∷ others) = hear_all hear (hear before told) others

-- a part of these lines was heard, from the start: a prefix of them, and of the next one a part, or nothing
pub record HearsPart {H A : Type 0} (hear : H → A → H) (part : H → A → H → Type 0) (before after : H) (lines : List A) : Type 0 where
  pub front : List A
  pub next : A
  pub rest : List A
  pub split : lines ≡ front ++ next ∷ rest
  pub heard : part (hear_all hear before front) next after

-- these lines were heard, or at a fault a part of them
abbrev pub Hears : {H A E : Type 0} → (H → A → H) → (H → A → H → Type 0) → H → H → List A → Result (Unit {0}) E → Type 0
Hears hear part before after lines (Ok _) = after ≡ hear_all hear before lines
Hears hear part before after lines (Err fault) = HearsPart hear part before after lines

-- the lines of a column
abbrev pub of_column : ℕ → List Line → List Told
of_column column lines = map (λ line. record { column = column; line = line }) lines

-- the lines of so many columns from this one on, in order
abbrev pub row_from : (ℕ → List Line) → ℕ → ℕ → List Told
row_from lines column zero = []
row_from lines column (suc count) = of_column column (lines column) ++ row_from lines (column + 1) count

-- a row: the lines of the first columns, so many, in order
abbrev pub row_of : (ℕ → List Line) → ℕ → List Told
row_of lines count = row_from lines 0 count

-- of all these lines those were heard that stand before what is left
pub record SoFar {H A : Type 0} (hear : H → A → H) (start now : H) (all left : List A) : Type 0 where
  pub done : List A
  pub split : all ≡ done ++ left
  pub heard : now ≡ hear_all hear start done

-- of these lines a front was heard, and of the next one a part, or nothing
abbrev pub HearsFront : {H A : Type 0} → (H → A → H) → (H → A → H → Type 0) → H → H → List A → Type 0
HearsFront {A = A} hear part before after lines = ((left : List A) × SoFar hear before after lines left) ⊎ HearsPart hear part before after lines
