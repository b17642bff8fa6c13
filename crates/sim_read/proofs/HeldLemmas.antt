-- What is held of a line means what the line means, and how the bytes of a text are counted.
use Rattle.std.proofs.Common.{◌≡◌, ℕ, ◌+◌, ◌<◌, ◌≤◌, Bool, true, false, List, ◌++◌, length, take, min, slice_index, None, Some, Err, inl, inr, sym, ap, subst, ◌∙◌, arith, length-append, lt-ltb}
use Rattle.std.specs.Prelude.{if◌then◌else◌, ◌==◌, ◌-◌, ◌||◌}
use Rattle.std.specs.List.{list_all}
use Rattle.std.proofs.lemmas.Bool.{cases_lt}
use Rattle.std.proofs.lemmas.List.{take_all, take-take, take-append-le, length-take}
use Rattle.line_words.specs.declared.files.TheConstants.{MOST_FILE_BYTES}
use Rattle.line_words.specs.declared.line_check.TheConstants.{LONGEST_LINE}
use Rattle.line_words.specs.declared.line_check.LineFault.TheVariants as of_line
use Rattle.line_words.specs.Bytes.{carriage_return, is_line_byte}
use Rattle.line_words.specs.Lines.{without_return}
use Rattle.line_words.specs.LineFaults.{is_comment}
use Rattle.sim_read.specs.declared.fault.NetWhat.TheVariants.{LineTooLong}
use Rattle.sim_read.specs.declared.pieces.TheConstants.{MOST_HELD}
use Rattle.sim_read.specs.Drafts.{DraftData}
use Rattle.sim_read.specs.Meaning.{checked_meaning, line_meaning}
use Rattle.sim_read.specs.Standing.{counted, IsOpen, ReaderData, StandsBy, StandsFor}

-- ---- what is held

-- bytes more after the first ones that were held
pub take-held : (n : ℕ) (bytes part : List ℕ) → take n (take n bytes ++ part) ≡ take n (bytes ++ part)
take-held n bytes part = elim (cases_lt n (length bytes)) [
  | inl past ↦
      take-append-le n (take n bytes) part (omega (arith, length-take n bytes))
      ∙ take-take n n bytes (omega arith) ∙ sym (take-append-le n bytes part (omega arith))
  | inr whole ↦ ap (λ start. take n (start ++ part)) (take_all n bytes whole)
]

-- a line loses one byte at most
length-without_return : (line : List ℕ) → length line ≤ length (without_return line) + 1
length-without_return line = by (slice_index line (length line - 1) == carriage_return) where
  by : (returns : Bool) → length line ≤ length (if returns then take (length line - 1) line else line) + 1
  by true = omega (arith, length-take (length line - 1) line)
  by false = omega arith

-- a line with too many bytes
meaning-too_long : (d : DraftData) (number : ℕ) (line : List ℕ) → LONGEST_LINE < length line
    → line_meaning None d (number, line) ≡ Err LineTooLong
meaning-too_long d number line long =
    ap (λ is. checked_meaning d (number, line) (if is then Some of_line.TooLong
    else (if is_comment line || list_all is_line_byte line then None else Some of_line.BadByte)))
    (lt-ltb LONGEST_LINE (length line) long)

-- what is held of a line means what the line means
pub held_meaning : (d : DraftData) (number : ℕ) (line : List ℕ)
    → line_meaning None d (number, without_return (take MOST_HELD line)) ≡ line_meaning None d (number, without_return line)
held_meaning d number line = elim (cases_lt MOST_HELD (length line)) [
  | inl past ↦
      meaning-too_long d number (without_return (take MOST_HELD line))
      (omega (arith, length-without_return (take MOST_HELD line), length-take MOST_HELD line))
      ∙ sym (meaning-too_long d number (without_return line) (omega (arith, length-without_return line)))
  | inr whole ↦ ap (λ bytes. line_meaning None d (number, without_return bytes)) (take_all MOST_HELD line whole)
]

-- ---- counting

-- the count of a text that goes on
counted-more : (n more : ℕ) → counted (min n (MOST_FILE_BYTES + 1)) more ≡ min (n + more) (MOST_FILE_BYTES + 1)
counted-more n more = omega arith

pub count-append : (old : ReaderData) (text piece : List ℕ) → StandsFor old text
    → counted old.bytes (length piece) ≡ min (length (text ++ piece)) (MOST_FILE_BYTES + 1)
count-append old text piece stood =
    ap (λ n. counted n (length piece)) stood.count ∙ counted-more (length text) (length piece)
    ∙ ap (λ n. min n (MOST_FILE_BYTES + 1)) (sym (length-append text piece))

-- a text of which no byte is too many so far
pub still_short : (old : ReaderData) (text piece : List ℕ) → StandsFor old text → counted old.bytes (length piece) ≤ MOST_FILE_BYTES
    → length (text ++ piece) ≤ MOST_FILE_BYTES
still_short old text piece stood within =
    let count : counted old.bytes (length piece) ≡ min (length (text ++ piece)) (MOST_FILE_BYTES + 1) = count-append old text piece stood in
    omega arith

pub now_long : (old : ReaderData) (text piece : List ℕ) → StandsFor old text → MOST_FILE_BYTES < counted old.bytes (length piece)
    → MOST_FILE_BYTES < length (text ++ piece)
now_long old text piece stood past =
    let count : counted old.bytes (length piece) ≡ min (length (text ++ piece)) (MOST_FILE_BYTES + 1) = count-append old text piece stood in
    omega arith

-- a reader without a fault is open
pub opened : (r : ReaderData) (text : List ℕ) → r.fault ≡ None → StandsFor r text → IsOpen r text
opened r text none stood = subst (StandsBy r text) none stood.stands
