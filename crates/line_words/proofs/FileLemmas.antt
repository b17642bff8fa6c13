-- What is read of the prefix of a file is what is read of the file.
use Rattle.std.proofs.Common.{◌≡◌, ℕ, ◌+◌, ◌≤◌, List, [], ◌∷◌, length, take, nat_le, Some, None, if◌then◌else◌, sym, zero-add, ◌∙◌, ap, inl, inr, arith}
use Rattle.std.specs.List.{enumerate_from}
use Rattle.std.proofs.lemmas.Bool.{cases_lt, le-leb, lt-leb}
use Rattle.std.proofs.lemmas.List.{take-take, length-take, take_all}
use Rattle.line_words.specs.Lines.{lines_of}
use Rattle.line_words.specs.declared.files.TheConstants.{MOST_FILE_BYTES}
use Rattle.line_words.specs.Files.{front_of, lines_in, cut_line}

-- the front of a front is that front
pub front_of-front_of : (text : List ℕ) → front_of (front_of text) ≡ front_of text
front_of-front_of text = take-take (MOST_FILE_BYTES + 1) (MOST_FILE_BYTES + 1) text (omega arith)

pub lines_in-front_of : (text : List ℕ) → lines_in (front_of text) ≡ lines_in text
lines_in-front_of text = ap (λ front. enumerate_from 1 (lines_of front)) (front_of-front_of text)

-- a text is too long exactly if its front is
is_short-front : (most : ℕ) (text : List ℕ) → nat_le (length (take (most + 1) text)) most ≡ nat_le (length text) most
is_short-front most text =
    elim (cases_lt most (length text)) [
      | inl long ↦
          lt-leb (length (take (most + 1) text)) most (omega (arith, length-take (most + 1) text))
          ∙ sym (lt-leb (length text) most long)
      | inr short ↦
          le-leb (length (take (most + 1) text)) most (omega (arith, length-take (most + 1) text))
          ∙ sym (le-leb (length text) most short)
    ]

pub cut_line-front_of : (text : List ℕ) → cut_line (front_of text) ≡ cut_line text
cut_line-front_of text =
    ap (λ short. if short then None else Some (length (lines_of (front_of (front_of text))))) (is_short-front MOST_FILE_BYTES text)
    ∙ ap (λ front. if nat_le (length text) MOST_FILE_BYTES then None else Some (length (lines_of front))) (front_of-front_of text)

-- the number of the last line, or this one if no line is left
abbrev pub last_number : ℕ → List (ℕ × List ℕ) → ℕ
last_number last [] = last
last_number last (line ∷ lines) = last_number line.0 lines

-- lines that are numbered on from a number end at it and as many more
pub last_number-enumerated : (last : ℕ) (lines : List (List ℕ)) → last_number last (enumerate_from (last + 1) lines) ≡ last + length lines
last_number-enumerated last [] = omega arith
last_number-enumerated last (line ∷ lines) = last_number-enumerated (last + 1) lines ∙ omega arith

-- lines that are numbered from 1 end at the number of how many they are
pub last_number-from_one : (lines : List (List ℕ)) → last_number 0 (enumerate_from 1 lines) ≡ length lines
last_number-from_one lines = last_number-enumerated 0 lines ∙ zero-add (length lines)

-- the prefix of a text that isn't longer is the text
pub front_of-whole : (text : List ℕ) → length text ≤ MOST_FILE_BYTES + 1 → front_of text ≡ text
front_of-whole text whole = take_all (MOST_FILE_BYTES + 1) text whole
