-- What a line without a fault that is no comment asks for goes by its words, here and in a plain script.
use Rattle.std.proofs.Common.{◌≡◌, ℕ, Bool, false, List, None, Ok, ap, ◌∙◌, if◌then◌else◌}
use Rattle.line_words.specs.LineFaults.{line_fault, is_comment}
use Rattle.line_words.specs.Words.{words_of}
use Rattle.script_lang.specs.Commands.{reading_by, reading_of, reading_of_words}
use Rattle.symbol_script.specs.Lines.{asked_by_line, asked_by_words, symbol_reading_of}

pub reading-words : (line : List ℕ) → line_fault line ≡ None → is_comment line ≡ false → reading_of line ≡ reading_of_words (words_of line)
reading-words line sound other =
    ap (reading_by line) sound ∙ ap (λ (comment : Bool). if comment then Ok None else reading_of_words (words_of line)) other

pub asked-words : (quiet : Bool) (line : List ℕ) → line_fault line ≡ None → is_comment line ≡ false →
    symbol_reading_of quiet line ≡ asked_by_words quiet (words_of line)
asked-words quiet line sound other =
    ap (asked_by_line quiet line) sound ∙ ap (λ (comment : Bool). if comment then Ok None else asked_by_words quiet (words_of line)) other
