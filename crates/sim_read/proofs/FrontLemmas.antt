-- What a netlist means that goes on from lines that LFs have ended: what these lines give, and then the lines of the rest as far as
-- it is read. Lines before the one that holds the first byte too many mean what they mean in a text that isn't too long.
use Rattle.std.proofs.Common.{◌≡◌, ℕ, ◌+◌, ◌-◌, ◌<◌, ◌≤◌, ◌==◌, true, false, List, [], ◌∷◌, ◌++◌, length, take, get_or, Option, None, Some, Result, Ok, Err, inl, inr, refl, ap, ap₂, ◌∙◌, arith, length-append}
use Rattle.std.specs.Prelude.{if◌then◌else◌}
use Rattle.std.specs.List.{enumerate_from}
use Rattle.std.proofs.lemmas.Bool.{cases_lt, le-leb, lt-leb}
use Rattle.std.proofs.lemmas.Bool.Decides.{nat_tests}
use Rattle.std.proofs.lemmas.List.{take_more, take_all, take-append-le, length-take}
use Rattle.std.proofs.lemmas.List.Elements.{All-take}
use Rattle.std.proofs.Math.Seq.{take-append-add}
use Rattle.line_words.specs.declared.files.TheConstants.{MOST_FILE_BYTES}
use Rattle.line_words.specs.Bytes.{is_line_feed}
use Rattle.line_words.specs.Files.{front_of, cut_line}
use Rattle.line_words.specs.Lines.{lines_of, without_return, HasNoFeed}
use Rattle.line_words.specs.LineFaults.{line_fault}
use Rattle.line_words.specs.Pieces.{AreEnded}
use Rattle.line_words.proofs.FeedLemmas.{length-lines_of-one}
use Rattle.line_words.proofs.LineLemmas.{lines_of-last}
use Rattle.line_words.proofs.PieceLemmas.{lines_of-AreEnded, lines_of-some}
use Rattle.sim_read.specs.declared.fault.NetRefusal.{NetRefusal}
use Rattle.sim_read.specs.declared.fault.NetWhat.{NetWhat}
use Rattle.sim_read.specs.declared.fault.NetWhat.TheVariants.{TooLong}
use Rattle.sim_read.specs.Drafts.{DraftData, circuit_of, rails_draft, sized}
use Rattle.sim_read.specs.Meaning.{checked_meaning, line_meaning, lines_meaning, netlist_of}
use Rattle.sim_read.specs.Standing.{too_far}
use Rattle.sim_read.proofs.MeaningLemmas.{onward}

-- what further lines give after lines with this meaning
abbrev pub and_lines : Option ℕ → List (ℕ × List ℕ) → Result DraftData NetRefusal → Result DraftData NetRefusal
and_lines cut lines (Ok d) = lines_meaning cut d lines
and_lines cut lines (Err refusal) = Err refusal

pub lines_meaning-append : (cut : Option ℕ) (d : DraftData) (first second : List (ℕ × List ℕ))
    → lines_meaning cut d (first ++ second) ≡ and_lines cut second (lines_meaning cut d first)
lines_meaning-append cut d [] second = refl
lines_meaning-append cut d (line ∷ first) second =
    by (line_meaning cut d line) (λ next. lines_meaning-append cut next first second) where
      by : (meaning : Result DraftData NetWhat)
          → ((next : DraftData) → lines_meaning cut next (first ++ second) ≡ and_lines cut second (lines_meaning cut next first))
          → onward cut line (first ++ second) meaning ≡ and_lines cut second (onward cut line first meaning)
      by (Ok next) more = more next
      by (Err what) more = refl

-- lines that are numbered on
pub enumerate_from-append : (n : ℕ) (first second : List (List ℕ))
    → enumerate_from n (first ++ second) ≡ enumerate_from n first ++ enumerate_from (n + length first) second
enumerate_from-append n [] second = ap (λ m. enumerate_from m second) (let e : n ≡ n + 0 = omega arith in e)
enumerate_from-append n (line ∷ first) second =
    ap (λ lines. (n, line) ∷ lines)
    (enumerate_from-append (n + 1) first second
    ∙ ap (λ m. enumerate_from (n + 1) first ++ enumerate_from m second)
    (let e : n + 1 + length first ≡ n + length (line ∷ first) = omega arith in e))

-- ---- the line that holds the first byte too many

not_cut : (cut n : ℕ) → n < cut → (cut == n) ≡ false
not_cut cut n below = grind (arith, nat_tests)

is_cut-here : (n : ℕ) → (n == n) ≡ true
is_cut-here n = grind (arith, nat_tests)

-- a line before it means what it means if there is none
lines_meaning-uncut : (cut n : ℕ) (lines : List (List ℕ)) (d : DraftData) → n + length lines ≤ cut
    → lines_meaning (Some cut) d (enumerate_from n lines) ≡ lines_meaning None d (enumerate_from n lines)
lines_meaning-uncut cut n [] d within = refl
lines_meaning-uncut cut n (line ∷ lines) d within =
    ap (λ here. onward (Some cut) (n, line) (enumerate_from (n + 1) lines) (if here then Err TooLong else checked_meaning d (n, line) (line_fault line)))
    (not_cut cut n (omega arith))
    ∙ by (checked_meaning d (n, line) (line_fault line)) (λ next. lines_meaning-uncut cut (n + 1) lines next (omega arith)) where
      by : (meaning : Result DraftData NetWhat)
          → ((next : DraftData) → lines_meaning (Some cut) next (enumerate_from (n + 1) lines) ≡ lines_meaning None next (enumerate_from (n + 1) lines))
          → onward (Some cut) (n, line) (enumerate_from (n + 1) lines) meaning ≡ onward None (n, line) (enumerate_from (n + 1) lines) meaning
      by (Ok next) more = more next
      by (Err what) more = refl

-- a line that holds it is refused
lines_meaning-cut : (n : ℕ) (d : DraftData) (lines : List (List ℕ)) → length lines ≡ 1
    → lines_meaning (Some n) d (enumerate_from n lines) ≡ Err (record { line = n; what = TooLong })
lines_meaning-cut n d [] one = absurd (omega arith)
lines_meaning-cut n d (line ∷ []) one =
    ap (λ here. onward (Some n) (n, line) [] (if here then Err TooLong else checked_meaning d (n, line) (line_fault line))) (is_cut-here n)
lines_meaning-cut n d (line ∷ other ∷ lines) one = absurd (omega arith)

-- ---- a text that goes on from ended lines

module _ (front more : List ℕ) (lines : List (List ℕ)) (are : AreEnded front lines) (short : length front ≤ MOST_FILE_BYTES) where
  -- what is read of the rest
  abbrev pub rest_read : List ℕ
  rest_read = take (MOST_FILE_BYTES + 1 - length front) more

  front_of-parts : front_of (front ++ more) ≡ front ++ rest_read
  front_of-parts =
      ap (λ n. take n (front ++ more)) (let e : MOST_FILE_BYTES + 1 ≡ length front + (MOST_FILE_BYTES + 1 - length front) = omega arith in e)
      ∙ take-append-add front more (MOST_FILE_BYTES + 1 - length front)

  pub lines_of-parts : lines_of (front_of (front ++ more)) ≡ lines ++ lines_of rest_read
  lines_of-parts = ap lines_of front_of-parts ∙ lines_of-AreEnded are rest_read

  -- if the text is too long, the ended lines stand before the line that holds the first byte too many
  uncut : lines_meaning (cut_line (front ++ more)) rails_draft (enumerate_from 1 lines) ≡ lines_meaning None rails_draft (enumerate_from 1 lines)
  uncut = elim (cases_lt MOST_FILE_BYTES (length (front ++ more))) [
    | inl long ↦
        let read : 0 < length rest_read =
        omega (arith, length-append front more, length-take (MOST_FILE_BYTES + 1 - length front) more) in
        let after : 0 < length (lines_of rest_read) = lines_of-some rest_read read in
        let count : length (lines_of (front_of (front ++ more))) ≡ length lines + length (lines_of rest_read) =
        ap length lines_of-parts ∙ length-append lines (lines_of rest_read) in
        let cut : cut_line (front ++ more) ≡ Some (length (lines_of (front_of (front ++ more)))) =
        ap (λ is. if is then None else Some (length (lines_of (front_of (front ++ more))))) (lt-leb (length (front ++ more)) MOST_FILE_BYTES long) in
        ap (λ at. lines_meaning at rails_draft (enumerate_from 1 lines)) cut
        ∙ lines_meaning-uncut (length (lines_of (front_of (front ++ more)))) 1 lines rails_draft (omega arith)
    | inr within ↦
        let none : cut_line (front ++ more) ≡ None =
        ap (λ is. if is then None else Some (length (lines_of (front_of (front ++ more))))) (le-leb (length (front ++ more)) MOST_FILE_BYTES within) in
        ap (λ at. lines_meaning at rails_draft (enumerate_from 1 lines)) none
  ]

  -- the text means what the ended lines give, and then the lines of the rest
  pub meaning_after : netlist_of (front ++ more)
      ≡ circuit_of (and_lines (cut_line (front ++ more)) (enumerate_from (1 + length lines) (lines_of rest_read)) (lines_meaning None rails_draft (enumerate_from 1 lines)))
  meaning_after =
      let cut = cut_line (front ++ more) in
      let left = enumerate_from (1 + length lines) (lines_of rest_read) in
      ap (λ ls. circuit_of (lines_meaning cut rails_draft (enumerate_from 1 ls))) lines_of-parts
      ∙ ap (λ ls. circuit_of (lines_meaning cut rails_draft ls)) (enumerate_from-append 1 lines (lines_of rest_read))
      ∙ ap circuit_of (lines_meaning-append cut rails_draft (enumerate_from 1 lines) left)
      ∙ ap (λ meaning. circuit_of (and_lines cut left meaning)) uncut

  -- where an ended line is refused, the text is refused so
  pub refused_after : (refusal : NetRefusal) → lines_meaning None rails_draft (enumerate_from 1 lines) ≡ Err refusal
      → netlist_of (front ++ more) ≡ Err refusal
  refused_after refusal refused =
      meaning_after
      ∙ ap (λ meaning. circuit_of (and_lines (cut_line (front ++ more)) (enumerate_from (1 + length lines) (lines_of rest_read)) meaning)) refused

-- where the line after the ended ones reaches up to the limit, and the text goes on, the text is refused at that line
pub refused_too_far : (front line more : List ℕ) (lines : List (List ℕ)) (d : DraftData) → AreEnded front lines → HasNoFeed line
    → lines_meaning None rails_draft (enumerate_from 1 lines) ≡ Ok d → length front ≤ MOST_FILE_BYTES
    → MOST_FILE_BYTES ≤ length front + length line → MOST_FILE_BYTES < length front + length (line ++ more)
    → netlist_of (front ++ (line ++ more)) ≡ Err (too_far (length lines))
refused_too_far front line more lines d are none drafts short reaches longer =
    let text = front ++ (line ++ more) in
    let room : ℕ = MOST_FILE_BYTES - length front in
    let byte : ℕ = get_or (line ++ more) room 0 in
    let read = rest_read front (line ++ more) lines are short in
    let parts : read ≡ take room line ++ byte ∷ [] =
    ap (λ n. take n (line ++ more)) (let e : MOST_FILE_BYTES + 1 - length front ≡ room + 1 = omega arith in e)
    ∙ take_more (line ++ more) room 0 (omega arith)
    ∙ ap (λ start. start ++ byte ∷ []) (take-append-le room line more (omega arith)) in
    let one : length (lines_of read) ≡ 1 =
    ap (λ part. length (lines_of part)) parts ∙ length-lines_of-one (take room line) byte (All-take (λ b. is_line_feed b ≡ false) room line none) in
    let long : MOST_FILE_BYTES < length text = omega (arith, length-append front (line ++ more)) in
    let count : length (lines_of (front_of text)) ≡ 1 + length lines =
    ap length (lines_of-parts front (line ++ more) lines are short) ∙ length-append lines (lines_of read) ∙ omega arith in
    let cut : cut_line text ≡ Some (1 + length lines) =
    ap (λ is. if is then None else Some (length (lines_of (front_of text)))) (lt-leb (length text) MOST_FILE_BYTES long) ∙ ap Some count in
    meaning_after front (line ++ more) lines are short
    ∙ ap (λ meaning. circuit_of (and_lines (cut_line text) (enumerate_from (1 + length lines) (lines_of read)) meaning)) drafts
    ∙ ap (λ at. circuit_of (lines_meaning at d (enumerate_from (1 + length lines) (lines_of read)))) cut
    ∙ ap circuit_of (lines_meaning-cut (1 + length lines) d (lines_of read) one)
    ∙ ap (λ n. Err (record { line = n; what = TooLong })) (let e : 1 + length lines ≡ length lines + 1 = omega arith in e)

-- ---- a text that isn't too long, with a last line that no LF ends

module _ (front rest : List ℕ) (lines : List (List ℕ)) (are : AreEnded front lines) (none : HasNoFeed rest) (d : DraftData) (drafts : lines_meaning None rails_draft (enumerate_from 1 lines) ≡ Ok d) (short : length (front ++ rest) ≤ MOST_FILE_BYTES) where
  within : length front ≤ MOST_FILE_BYTES
  within = omega (arith, length-append front rest)

  whole_meaning : netlist_of (front ++ rest) ≡ circuit_of (lines_meaning None d (enumerate_from (1 + length lines) (lines_of rest)))
  whole_meaning =
      let read : rest_read front rest lines are within ≡ rest = take_all (MOST_FILE_BYTES + 1 - length front) rest (omega (arith, length-append front rest)) in
      let uncut : cut_line (front ++ rest) ≡ None =
      ap (λ is. if is then None else Some (length (lines_of (front_of (front ++ rest))))) (le-leb (length (front ++ rest)) MOST_FILE_BYTES short) in
      meaning_after front rest lines are within
      ∙ ap₂ (λ at left. circuit_of (and_lines at (enumerate_from (1 + length lines) (lines_of left)) (lines_meaning None rails_draft (enumerate_from 1 lines)))) uncut read
      ∙ ap (λ meaning. circuit_of (and_lines None (enumerate_from (1 + length lines) (lines_of rest)) meaning)) drafts

  -- where nothing follows the ended lines
  pub meaning_whole : rest ≡ [] → netlist_of (front ++ rest) ≡ Ok (sized d)
  meaning_whole empty = whole_meaning ∙ ap (λ left. circuit_of (lines_meaning None d (enumerate_from (1 + length lines) (lines_of left)))) empty

  -- where a last line follows them
  pub meaning_last : 0 < length rest → (number : ℕ) → number ≡ length lines + 1
      → netlist_of (front ++ rest) ≡ circuit_of (onward None (number, without_return rest) [] (line_meaning None d (number, without_return rest)))
  meaning_last some number is =
      whole_meaning ∙ ap (λ ls. circuit_of (lines_meaning None d (enumerate_from (1 + length lines) ls))) (lines_of-last rest some none)
      ∙ ap (λ n. circuit_of (onward None (n, without_return rest) [] (line_meaning None d (n, without_return rest))))
      (let e : 1 + length lines ≡ number = omega arith in e)
