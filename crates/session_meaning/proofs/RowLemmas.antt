-- The rows of columns' lines: they are one list, they join, they are there where the columns have equally many lines, and what is there of each column is
-- there of all.
use Rattle.std.proofs.Common.{◌≡◌, ℕ, zero, suc, ◌<◌, ◌≤◌, List, [], ◌∷◌, ◌++◌, length, refl, sym, ap, subst, ◌∙◌, append_assoc, append-nil, arith, inl, inr}
use Rattle.std.proofs.lemmas.Bool.{cases_lt}
use Rattle.std.specs.Prelude.{◌⊎◌}
use Rattle.told_lines.specs.Lines.{Line, Told, Reported}
use Rattle.told_lines.specs.Hearing.{of_column}
use Rattle.told_lines.proofs.RowLemmas.{row-alike, row_of_lines}
use Rattle.session_meaning.specs.Columns.{AreRows}
use Rattle.session_meaning.specs.Columns.AreRows.{no_row, one_more}

-- rows are told by the lines of the columns that there are
pub rows-alike : {columns : ℕ} {lines : ℕ → List Line} {told : List Told} (other : ℕ → List Line) → ((column : ℕ) → column < columns → other column ≡ lines column) →
    AreRows columns lines told → AreRows columns other told
rows-alike other same (no_row lines none) = no_row other (λ column inside. same column inside ∙ none column inside)
rows-alike other same (one_more lines others line told parts rows) =
    one_more other others line told (λ column inside. same column inside ∙ parts column inside) rows

-- so lines of one column or more are told as one list
pub rows_unique : {columns : ℕ} {lines others : ℕ → List Line} {told more : List Told} → 0 < columns →
    ((column : ℕ) → column < columns → lines column ≡ others column) → AreRows columns lines told → AreRows columns others more → told ≡ more
rows_unique some same (no_row lines none) (no_row others also) = refl
rows_unique some same (no_row lines none) (one_more others left line told parts rows) = absurd (cc (none 0 some, same 0 some, parts 0 some))
rows_unique some same (one_more lines rest line told parts rows) (no_row others none) = absurd (cc (none 0 some, same 0 some, parts 0 some))
rows_unique {columns} some same (one_more lines rest line told parts rows) (one_more others left other more pieces further) =
    let here : (column : ℕ) → column < columns → line column ≡ other column =
    λ column inside. cc (parts column inside, same column inside, pieces column inside) in
    let later : (column : ℕ) → column < columns → rest column ≡ left column =
    λ column inside. cc (parts column inside, same column inside, pieces column inside) in
    ap (λ (row : List Told). row ++ told) (row-alike line other columns here)
    ∙ ap (λ (after : List Told). row_of_lines other columns ++ after) (rows_unique some later rows further)

-- of one column they are its lines
pub rows_of_one : {columns : ℕ} {lines : ℕ → List Line} {told : List Told} → columns ≡ 1 → AreRows columns lines told → told ≡ of_column 0 (lines 0)
rows_of_one {columns} one (no_row lines none) =
    let some : 0 < columns = omega (arith, one) in
    sym (ap (of_column 0) (none 0 some))
rows_of_one {columns} one (one_more lines others line told parts rows) =
    let some : 0 < columns = omega (arith, one) in
    let single : columns ≡ suc zero = omega (arith, one) in
    ap (λ (n : ℕ). row_of_lines line n ++ told) single
    ∙ ap (λ (rest : List Told). record { column = 0; line = line 0 } ∷ rest) (rows_of_one one rows)
    ∙ sym (ap (of_column 0) (parts 0 some))

-- ---- rows

-- no lines are told as none
pub rows-none : (columns : ℕ) → AreRows columns (λ column. []) []
rows-none columns = no_row (λ column. []) (λ column inside. refl)

-- a line of each column makes a row
pub rows-one : (columns : ℕ) (line : ℕ → Line) → AreRows columns (λ column. line column ∷ []) (row_of_lines line columns)
rows-one columns line =
    subst (AreRows columns (λ column. line column ∷ [])) (append-nil (row_of_lines line columns))
    (one_more (λ column. line column ∷ []) (λ column. []) line [] (λ column inside. refl) (rows-none columns))

-- the lines of one column are rows
pub rows_in_one : (columns : ℕ) → columns ≡ 1 → (lines : List Line) → AreRows columns (λ column. lines) (of_column 0 lines)
rows_in_one columns one [] = rows-none columns
rows_in_one columns one (line ∷ lines) =
    let single : suc zero ≡ columns = omega (arith, one) in
    subst (λ (row : List Told). AreRows columns (λ column. line ∷ lines) (row ++ of_column 0 lines)) (sym (ap (row_of_lines (λ column. line)) single))
    (one_more (λ column. line ∷ lines) (λ column. lines) (λ column. line) (of_column 0 lines) (λ column inside. refl) (rows_in_one columns one lines))

-- rows, and then more
pub rows-append : {columns : ℕ} {lines : ℕ → List Line} {told : List Told} (more : ℕ → List Line) (next : List Told) → AreRows columns lines told →
    AreRows columns more next → AreRows columns (λ column. lines column ++ more column) (told ++ next)
rows-append more next (no_row lines none) later =
    rows-alike (λ column. lines column ++ more column) (λ column inside. ap (λ (front : List Line). front ++ more column) (none column inside)) later
rows-append {columns} more next (one_more lines others line told parts rows) later =
    subst (AreRows columns (λ column. lines column ++ more column)) (sym (append_assoc (row_of_lines line columns) told next))
    (one_more (λ column. lines column ++ more column) (λ column. others column ++ more column) line (told ++ next)
    (λ column inside. ap (λ (front : List Line). front ++ more column) (parts column inside)) (rows-append more next rows later))

-- the first line, and those after it
first_line : List Line → Line
first_line [] = Reported 0 0 0
first_line (line ∷ lines) = line

other_lines : List Line → List Line
other_lines [] = []
other_lines (line ∷ lines) = lines

cut_line : (count : ℕ) (lines : List Line) → length lines ≡ suc count → (lines ≡ first_line lines ∷ other_lines lines) × (length (other_lines lines) ≡ count)
unfolding first_line other_lines
cut_line count [] counted = absurd (omega (arith, counted))
cut_line count (line ∷ lines) counted = (refl, omega (arith, counted))

no_lines : (lines : List Line) → length lines ≡ 0 → lines ≡ []
no_lines [] counted = refl
no_lines (line ∷ lines) counted = absurd (omega (arith, counted))

-- columns with equally many lines have rows
pub rows_exist : (columns count : ℕ) (lines : ℕ → List Line) → ((column : ℕ) → column < columns → length (lines column) ≡ count) →
    (told : List Told) × AreRows columns lines told
rows_exist columns zero lines counted = ([], no_row lines (λ column inside. no_lines (lines column) (counted column inside)))
rows_exist columns (suc count) lines counted =
    let others : ℕ → List Line = λ column. other_lines (lines column) in
    let line : ℕ → Line = λ column. first_line (lines column) in
    let more = rows_exist columns count others (λ column inside. (cut_line count (lines column) (counted column inside)).1) in (
      row_of_lines line columns ++ more.0,
      one_more lines others line more.0 (λ column inside. (cut_line count (lines column) (counted column inside)).0) more.1,
    )

-- what is there of each of the columns is there of all at once
module _ {A : Type 0} (columns : ℕ) (P : ℕ → A → Type 0) (other : ℕ → A) (found : (column : ℕ) → column < columns → (a : A) × P column a) where
  abbrev pick : (column : ℕ) → (column < columns) ⊎ (columns ≤ column) → A
  pick column (inl inside) = (found column inside).0
  pick column (inr past) = other column

  picked : (column : ℕ) (which : (column < columns) ⊎ (columns ≤ column)) → column < columns → P column (pick column which)
  picked column (inl inside) within = (found column inside).1
  picked column (inr past) within = absurd (omega (arith, past, within))

  pub choose : (f : ℕ → A) × ((column : ℕ) → column < columns → P column (f column))
  choose = (λ column. pick column (cases_lt column columns), λ column inside. picked column (cases_lt column columns) inside)
