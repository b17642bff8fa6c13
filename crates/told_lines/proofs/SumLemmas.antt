-- What is counted line by line comes to sums over all lines.
use Rattle.std.proofs.Common.{◌≡◌, ℕ, List, [], ◌∷◌, ◌++◌, sum_by, refl, sym, ap, ◌∙◌, append-nil, append_assoc}
use Rattle.std.proofs.lemmas.List.Sums.{sum_by_push}
use Rattle.ternary.specs.Counts.{raised}
use Rattle.ternary.specs.declared.tern.Tern.TheVariants.{Zero, One, Unk}
use Rattle.ternary.proofs.CountsLemmas.{raised-more, raised-none}
use Rattle.printed_lines.specs.declared.lines.Summary.{Summary}
use Rattle.told_lines.specs.Lines.{Line, Wave, Unmet, Shown, Looked, AtEnd, AtGate, Reported, Refused}
use Rattle.told_lines.specs.Hearing.{hear_all, of_column}
use Rattle.told_lines.specs.Sums.{counted, with_line, waves_of, steps_of, marks_of, values_of, total, summary_of}
use Rattle.told_lines.specs.Laws.{SumsAreTotals}

-- a total of one line more
total-one : (number : Line → ℕ) (before : List Line) (line : Line) → raised (total number before) (number line) ≡ total number (before ++ line ∷ [])
total-one number before line =
    raised-more 0 (sum_by number before) (number line) ∙ ap (λ (sum : ℕ). raised 0 sum) (sym (sum_by_push number before line))

-- a total of one line more that counts for nothing
total-none : (number : Line → ℕ) (before : List Line) (line : Line) → number line ≡ 0 → total number before ≡ total number (before ++ line ∷ [])
total-none number before line none =
    raised-none (total number before) ∙ ap (λ (more : ℕ). raised (total number before) more) (sym none) ∙ total-one number before line

-- a summary by its counts
abbrev made : ℕ → ℕ → ℕ → ℕ → ℕ → ℕ → ℕ → ℕ → Summary
made nodes switches lines steps marks zeros ones unknown = record {
  nodes = nodes;
  switches = switches;
  lines = lines;
  steps = steps;
  marks = marks;
  zeros = zeros;
  ones = ones;
  unknown = unknown;
}

made-same : (nodes switches : ℕ) {l s m z o u l' s' m' z' o' u' : ℕ} → l ≡ l' → s ≡ s' → m ≡ m' → z ≡ z' → o ≡ o' → u ≡ u' →
    made nodes switches l s m z o u ≡ made nodes switches l' s' m' z' o' u'
made-same nodes switches is_l is_s is_m is_z is_o is_u = cc

-- a line that counts for nothing
other-counted : (nodes switches : ℕ) (before : List Line) (line : Line) → waves_of line ≡ 0 → steps_of line ≡ 0 → marks_of line ≡ 0 →
    values_of Zero line ≡ 0 → values_of One line ≡ 0 → values_of Unk line ≡ 0 →
    summary_of nodes switches before ≡ summary_of nodes switches (before ++ line ∷ [])
other-counted nodes switches before line no_wave no_step no_mark no_zero no_one no_unknown =
    made-same nodes switches (total-none waves_of before line no_wave) (total-none steps_of before line no_step)
    (total-none marks_of before line no_mark) (total-none (values_of Zero) before line no_zero) (total-none (values_of One) before line no_one)
    (total-none (values_of Unk) before line no_unknown)

-- one line more is counted
one-counted : (nodes switches : ℕ) (before : List Line) (line : Line) →
    with_line (summary_of nodes switches before) line ≡ summary_of nodes switches (before ++ line ∷ [])
one-counted nodes switches before (Wave n k mark values) =
    let line : Line = Wave n k mark values in
    made-same nodes switches (total-one waves_of before line) (total-one steps_of before line) (total-one marks_of before line)
    (total-one (values_of Zero) before line) (total-one (values_of One) before line) (total-one (values_of Unk) before line)
one-counted nodes switches before (Unmet name want got n) = other-counted nodes switches before (Unmet name want got n) refl refl refl refl refl refl
one-counted nodes switches before (Shown name values) = other-counted nodes switches before (Shown name values) refl refl refl refl refl refl
one-counted nodes switches before (Looked name state sort) = other-counted nodes switches before (Looked name state sort) refl refl refl refl refl refl
one-counted nodes switches before (AtEnd switch gate gate_state end end_state) =
    other-counted nodes switches before (AtEnd switch gate gate_state end end_state) refl refl refl refl refl refl
one-counted nodes switches before (AtGate switch source source_state drain drain_state) =
    other-counted nodes switches before (AtGate switch source source_state drain drain_state) refl refl refl refl refl refl
one-counted nodes switches before (Reported groups texts fresh) =
    other-counted nodes switches before (Reported groups texts fresh) refl refl refl refl refl refl
one-counted nodes switches before (Refused place code name count) =
    other-counted nodes switches before (Refused place code name count) refl refl refl refl refl refl

-- lines that are counted after others come to the summary of all
pub more-counted : (column nodes switches : ℕ) (before lines : List Line) →
    hear_all counted (summary_of nodes switches before) (of_column column lines) ≡ summary_of nodes switches (before ++ lines)
more-counted column nodes switches before [] = ap (summary_of nodes switches) (sym (append-nil before))
more-counted column nodes switches before (line ∷ lines) =
    ap (λ (now : Summary). hear_all counted now (of_column column lines)) (one-counted nodes switches before line)
    ∙ more-counted column nodes switches (before ++ line ∷ []) lines
    ∙ ap (summary_of nodes switches) (append_assoc before (line ∷ []) lines)

-- so those that are counted from the start come to theirs
pub sums_totals : SumsAreTotals
sums_totals column nodes switches lines = more-counted column nodes switches [] lines
