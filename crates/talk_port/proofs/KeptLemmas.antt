-- The prefix of a line that is kept: it has the line's fault, and is the line unless that is too long.
use Rattle.std.proofs.Common.{◌≡◌, ℕ, ◌+◌, ◌<◌, ◌≤◌, Bool, true, false, List, length, take, slice_index, None, Some, inl, inr, sym, ap, ◌∙◌, arith, lt-ltb}
use Rattle.std.specs.Prelude.{if◌then◌else◌, ◌==◌, ◌-◌, ◌||◌}
use Rattle.std.specs.List.{list_all}
use Rattle.std.proofs.lemmas.Bool.{cases_lt}
use Rattle.std.proofs.lemmas.List.{take_all, length-take}
use Rattle.line_words.specs.declared.line_check.LineFault.TheVariants.{TooLong, BadByte}
use Rattle.line_words.specs.declared.line_check.TheConstants.{LONGEST_LINE}
use Rattle.line_words.specs.Bytes.{carriage_return, is_line_byte}
use Rattle.line_words.specs.Lines.{without_return}
use Rattle.line_words.specs.LineFaults.{is_comment, line_fault}
use Rattle.talk_port.specs.Laws.{KeptIsWhole, KeptTellsFault}
use Rattle.talk_port.specs.Talks.{kept_bytes}

-- a line loses one byte at most, if it loses its last one or none
length-shortened : (line : List ℕ) (returns : Bool) → length line ≤ length (if returns then take (length line - 1) line else line) + 1
length-shortened line true = omega (arith, length-take (length line - 1) line)
length-shortened line false = omega arith

length-returned : (line : List ℕ) → length line ≤ length (without_return line) + 1
length-returned line = length-shortened line (slice_index line (length line - 1) == carriage_return)

-- a line with too many bytes
fault-too_long : (line : List ℕ) → LONGEST_LINE < length line → line_fault line ≡ Some TooLong
fault-too_long line long =
    ap (λ is. if is then Some TooLong else (if is_comment line || list_all is_line_byte line then None else Some BadByte))
    (lt-ltb LONGEST_LINE (length line) long)

-- a line of which some bytes aren't kept is too long
fault-cut : (line : List ℕ) → kept_bytes < length line → line_fault (without_return line) ≡ Some TooLong
fault-cut line past = fault-too_long (without_return line) (omega (arith, length-returned line))

pub kept-fault : KeptTellsFault
kept-fault line = elim (cases_lt kept_bytes (length line)) [
  | inl past ↦
      fault-too_long (without_return (take kept_bytes line))
      (omega (arith, length-returned (take kept_bytes line), length-take kept_bytes line))
      ∙ sym (fault-cut line past)
  | inr whole ↦ ap (λ bytes. line_fault (without_return bytes)) (take_all kept_bytes line whole)
]

pub kept-whole : KeptIsWhole
kept-whole line fits = elim (cases_lt kept_bytes (length line)) [
  | inl past ↦ absurd (fits (fault-cut line past))
  | inr whole ↦ take_all kept_bytes line whole
]
