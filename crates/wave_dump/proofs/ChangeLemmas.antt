-- The lines of the values that changed, from an entry on: an entry more, and entries that didn't change.
use Rattle.std.proofs.Common.{◌≡◌, ◌≢◌, ℕ, zero, suc, ◌+◌, ◌<◌, ◌≤◌, Bool, true, false, inl, inr, ◌⊎◌, List, [], ◌∷◌, ◌++◌, length, drop, refl, sym, ◌∙◌, ap, arith, add-one, true≢false}
use Rattle.std.specs.Prelude.{slice_index_or, ◌&&◌, if◌then◌else◌}
use Rattle.std.proofs.Math.Seq.{drop-cons}
use Rattle.std.proofs.lemmas.List.{drop_all}
use Rattle.ternary.specs.declared.tern.Tern.{Tern}
use Rattle.ternary.specs.declared.tern.Tern.TheVariants.{Zero, One, Unk}
use Rattle.wave_dump.specs.Dumps.{at_time, time_line}
use Rattle.told_lines.specs.Sums.{is_state}
use Rattle.wave_dump.specs.Values.{same_value, value_line, change_lines}

-- two states are the same if the test says so, and only then
is_state-is : (one two : Tern) → is_state one two ≡ true → one ≡ two
is_state-is Zero Zero same = refl
is_state-is One One same = refl
is_state-is Unk Unk same = refl
is_state-is Zero One same = absurd cc
is_state-is Zero Unk same = absurd cc
is_state-is One Zero same = absurd cc
is_state-is One Unk same = absurd cc
is_state-is Unk Zero same = absurd cc
is_state-is Unk One same = absurd cc

is_state-self : (state : Tern) → is_state state state ≡ true
is_state-self Zero = refl
is_state-self One = refl
is_state-self Unk = refl

-- and two values
pub same_value-self : (value : List Tern) → same_value value value ≡ true
same_value-self [] = refl
same_value-self (state ∷ value) = rw (is_state-self state) (same_value-self value)

same_both : (left right : Bool) → (left && right) ≡ true → (left ≡ true) × (right ≡ true)
same_both true true both = (refl, refl)
same_both true false both = absurd cc
same_both false right both = absurd cc

pub same_value-is : (one two : List Tern) → same_value one two ≡ true → one ≡ two
same_value-is [] [] same = refl
same_value-is [] (state ∷ two) same = absurd cc
same_value-is (state ∷ one) [] same = absurd cc
same_value-is (left ∷ one) (right ∷ two) same =
    let both = same_both (is_state left right) (same_value one two) same in
    rw (is_state-is left right both.0) (ap (λ value. right ∷ value) (same_value-is one two both.1))

-- two values are the same, or the test says that they aren't
value_by : (one two : List Tern) (test : Bool) → same_value one two ≡ test → (one ≡ two) ⊎ ((one ≢ two) × (same_value one two ≡ false))
value_by one two true is = inl (same_value-is one two is)
value_by one two false is = inr ((λ same. true≢false (sym (ap (same_value one) (sym same) ∙ same_value-self one) ∙ is)), is)

pub value_cases : (one two : List Tern) → (one ≡ two) ⊎ ((one ≢ two) × (same_value one two ≡ false))
value_cases one two = value_by one two (same_value one two) refl

-- the line of an entry's value if it changed, and nothing if it didn't
abbrev pub line_if : ℕ → List Tern → List Tern → List ℕ
line_if number old new = if same_value old new then [] else value_line number new

pub line_if-same : (number : ℕ) (old new : List Tern) → old ≡ new → line_if number old new ≡ []
line_if-same number old new same = rw same (rw (same_value-self new) refl)

pub line_if-changed : (number : ℕ) (old new : List Tern) → same_value old new ≡ false → line_if number old new ≡ value_line number new
line_if-changed number old new differs = rw differs refl

-- the lines of the entries from this one on
abbrev pub lines_from : List (List Tern) → List (List Tern) → ℕ → List ℕ
lines_from olds news number = change_lines number (drop number olds) (drop number news)

module _ (olds news : List (List Tern)) (count : length olds ≡ length news) where
  abbrev old_at : ℕ → List Tern
  old_at number = slice_index_or olds number []

  abbrev new_at : ℕ → List Tern
  new_at number = slice_index_or news number []

  pub lines_from-first : (number : ℕ) → number < length news →
      lines_from olds news number ≡ line_if number (old_at number) (new_at number) ++ lines_from olds news (number + 1)
  lines_from-first number inside =
      ap (λ left. change_lines number left (drop number news)) (drop-cons olds number [] (omega (arith, inside, count)))
      ∙ (ap (λ left. change_lines number (old_at number ∷ drop (suc number) olds) left) (drop-cons news number [] inside)
      ∙ ap (λ next. line_if number (old_at number) (new_at number) ++ change_lines (number + 1) (drop next olds) (drop next news)) (sym (add-one number)))

  -- entries that didn't change have no lines
  pub lines_from-same : (number steps : ℕ) → number + steps ≤ length news →
      ((other : ℕ) → number ≤ other → other < number + steps → old_at other ≡ new_at other) →
      lines_from olds news number ≡ lines_from olds news (number + steps)
  lines_from-same number zero inside same = ap (lines_from olds news) (omega arith)
  lines_from-same number (suc steps) inside same =
      lines_from-first number (omega (arith, inside))
      ∙ (ap (λ line. line ++ lines_from olds news (number + 1)) (line_if-same number (old_at number) (new_at number) (same number (omega arith) (omega arith)))
      ∙ (lines_from-same (number + 1) steps (omega (arith, inside)) (λ other above below. same other (omega (arith, above)) (omega (arith, below)))
      ∙ ap (lines_from olds news) (omega arith)))

  pub lines_from-end : lines_from olds news (length news) ≡ []
  lines_from-end = ap (λ left. change_lines (length news) left (drop (length news) news)) (drop_all (length news) olds (omega (arith, count)))

-- the line of a value has some bytes
pub value_line-some : (number : ℕ) (value : List Tern) (more : List ℕ) → (value_line number value ++ more ≢ [])
value_line-some number [] more none = absurd cc
value_line-some number (only ∷ []) more none = absurd cc
value_line-some number (one ∷ two ∷ value) more none = absurd cc

-- lines that have some bytes come behind the time
pub at_time-some : (time : ℕ) (lines : List ℕ) → lines ≢ [] → at_time time lines ≡ time_line time ++ lines
at_time-some time [] some = absurd (some refl)
at_time-some time (byte ∷ lines) some = refl
