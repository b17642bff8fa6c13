-- A row that is told column by column, a line of each: what of it was heard, and what of its text was put; and the values of all columns in one list.
use Rattle.std.proofs.Common.{◌≡◌, ℕ, zero, suc, ◌+◌, ◌-◌, ◌*◌, ◌<◌, ◌≤◌, Bool, List, [], ◌∷◌, ◌++◌, length, take, drop, refl, sym, ap, ap₂, subst, ◌∙◌, length-drop, arith}
use Rattle.std.proofs.lemmas.List.{drop-append-le, drop_at, take-append-le, take_all}
use Rattle.ternary.specs.declared.tern.Tern.{Tern}
use Rattle.told_lines.specs.Lines.{Line, Told}
use Rattle.told_lines.specs.Hearing.{hear_all, HearsPart, SoFar, of_column, row_from, row_of}
use Rattle.told_lines.specs.Rows.{values_at}
use Rattle.told_lines.specs.Printing.{printed, text_printed}
use Rattle.told_lines.proofs.HearingLemmas.{row_from-next, so_far-end, so_far-more, so_far-start, so_far-stopped}

-- the row of these lines of so many columns
abbrev pub row_of_lines : (ℕ → Line) → ℕ → List Told
row_of_lines line columns = row_of (λ column. line column ∷ []) columns

-- columns' lines that are the same make the same row, from any column on
row_from-alike : (lines others : ℕ → List Line) (column count : ℕ) →
    ((k : ℕ) → column ≤ k → k < column + count → lines k ≡ others k) → row_from lines column count ≡ row_from others column count
row_from-alike lines others column zero same = refl
row_from-alike lines others column (suc count) same =
    ap₂ (λ (front rest : List Told). front ++ rest) (ap (of_column column) (same column (omega arith) (omega arith)))
    (row_from-alike lines others (column + 1) count (λ k above below. same k (omega (arith, above)) (omega (arith, below))))

pub row-alike : (line other : ℕ → Line) (count : ℕ) → ((column : ℕ) → column < count → line column ≡ other column) →
    row_of_lines line count ≡ row_of_lines other count
row-alike line other count same =
    row_from-alike (λ column. line column ∷ []) (λ column. other column ∷ []) 0 count
    (λ column above below. ap (λ (one : Line). one ∷ []) (same column (omega (arith, below))))

-- what is left of it from a column on
abbrev pub row_left : (ℕ → Line) → ℕ → ℕ → List Told
row_left line columns column = row_from (λ k. line k ∷ []) column (columns - column)

-- from the first column on all is left
pub row_left-first : (line : ℕ → Line) (columns : ℕ) → row_left line columns 0 ≡ row_of_lines line columns
row_left-first line columns =
    let all : columns - 0 ≡ columns = omega arith in
    ap (row_from (λ k. line k ∷ []) 0) all

-- from a column on its own line is left, and what is left from the next one on
pub row_left-next : (line : ℕ → Line) (columns column : ℕ) → column < columns →
    row_left line columns column ≡ record { column = column; line = line column } ∷ row_left line columns (column + 1)
row_left-next line columns column inside = row_from-next (λ k. line k ∷ []) column columns inside

-- behind the last one nothing is left
pub row_left-none : (line : ℕ → Line) (columns column : ℕ) → column ≡ columns → row_left line columns column ≡ []
row_left-none line columns column all =
    let none : columns - column ≡ 0 = omega (arith, all) in
    ap (row_from (λ k. line k ∷ []) column) none

module _ {H : Type 0} (hear : H → Told → H) (part : H → Told → H → Type 0) (line : ℕ → Line) (columns : ℕ) where
  -- no column's line was told yet
  pub row_first : (start : H) → SoFar hear start start (row_of_lines line columns) (row_left line columns 0)
  row_first start =
      subst (λ (left : List Told). SoFar hear start start (row_of_lines line columns) left) (sym (row_left-first line columns))
      (so_far-start hear start (row_of_lines line columns))

  -- one column's more was told
  pub row_more : (start now after : H) (column : ℕ) → column < columns → SoFar hear start now (row_of_lines line columns) (row_left line columns column) →
      after ≡ hear now (record { column = column; line = line column }) → SoFar hear start after (row_of_lines line columns) (row_left line columns (column + 1))
  row_more start now after column inside before heard =
      so_far-more hear start now after (row_of_lines line columns) (row_left line columns column) (of_column column (line column ∷ []))
      (row_left line columns (column + 1)) (row_left-next line columns column inside) before heard

  -- all were told
  pub row_end : (start now : H) (column : ℕ) → column ≡ columns → SoFar hear start now (row_of_lines line columns) (row_left line columns column) →
      now ≡ hear_all hear start (row_of_lines line columns)
  row_end start now column all before =
      so_far-end hear start now (row_of_lines line columns)
      (subst (λ (left : List Told). SoFar hear start now (row_of_lines line columns) left) (row_left-none line columns column all) before)

  -- of one column's a part was heard, or nothing
  pub row_stopped : (start now after : H) (column : ℕ) → column < columns → SoFar hear start now (row_of_lines line columns) (row_left line columns column) →
      part now (record { column = column; line = line column }) after → HearsPart hear part start after (row_of_lines line columns)
  row_stopped start now after column inside before stopped =
      so_far-stopped hear part start now after (row_of_lines line columns) (row_left line columns column) (of_column column (line column ∷ []))
      (row_left line columns (column + 1)) (row_left-next line columns column inside) before
      (record { front = []; next = record { column = column; line = line column }; rest = []; split = refl; heard = stopped })

-- the text of what is left from a column on is its own line's, and that of what is left from the next one on
pub text_left-next : (numbered : Bool) (line : ℕ → Line) (columns column : ℕ) → column < columns →
    text_printed numbered (row_left line columns column)
    ≡ printed numbered (record { column = column; line = line column }) ++ text_printed numbered (row_left line columns (column + 1))
text_left-next numbered line columns column inside = ap (text_printed numbered) (row_left-next line columns column inside)

-- the values of a column stay, if those of others are put behind
pub values_at-front : (width : ℕ) (values more : List Tern) (column : ℕ) → column * width + width ≤ length values →
    values_at width (values ++ more) column ≡ values_at width values column
values_at-front width values more column within =
    let start : column * width ≤ length values = omega (arith, within) in
    let rest : width ≤ length (drop (column * width) values) = omega (arith, length-drop (column * width) values, within) in
    ap (take width) (drop-append-le (column * width) values more start) ∙ take-append-le width (drop (column * width) values) more rest

-- and these are those of the next column
pub values_at-last : (width : ℕ) (values more : List Tern) (column : ℕ) → length values ≡ column * width → length more ≡ width →
    values_at width (values ++ more) column ≡ more
values_at-last width values more column all count =
    ap (take width) (drop_at values more (column * width) all) ∙ take_all width more (omega (arith, count))
