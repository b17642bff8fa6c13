-- What a line asks for in a talk: a line of a script, or one of the commands that only a talk has.
use Rattle.std.specs.Prelude.{ℕ, Bool, true, false, List, [], ◌∷◌, ◌++◌, codes, bytes_eq, if◌then◌else◌, ◌||◌, is_some}
use Rattle.line_words.specs.LineFaults.{line_fault, is_comment}
use Rattle.line_words.specs.Lines.{without_return}
use Rattle.line_words.specs.Words.{words_of}
use Rattle.printed_lines.specs.declared.faults.FaultCode.{FaultCode}
use Rattle.printed_lines.specs.declared.faults.FaultCode.TheVariants.{S2FewWords, S3ManyWords}
use Rattle.talk_run.specs.declared.asking.Asked as code
use Rattle.talk_run.specs.declared.asking.Asked.TheVariants as code_is

-- what a script's line asks for; the reasons of the node with this name; these words again; the end; or nothing that there is
pub data Asked : Type 0 where
  OfScript : Asked
  Why : List ℕ → Asked
  Echo : List (List ℕ) → Asked
  Quit : Asked
  Refused : FaultCode → Asked

-- `why`, which is given a name
abbrev pub why_asked : List (List ℕ) → Asked
why_asked [] = Refused S2FewWords
why_asked (name ∷ []) = Why name
why_asked (name ∷ other ∷ words) = Refused S3ManyWords

-- `echo`, which is given one word or more
abbrev pub echo_asked : List (List ℕ) → Asked
echo_asked [] = Refused S2FewWords
echo_asked (word ∷ words) = Echo (word ∷ words)

-- `quit`, which is given nothing
abbrev pub quit_asked : List (List ℕ) → Asked
quit_asked [] = Quit
quit_asked (word ∷ words) = Refused S3ManyWords

-- what words ask for, by the first, compared byte by byte
abbrev pub words_asked : List (List ℕ) → Asked
words_asked [] = OfScript
words_asked (word ∷ words) =
    if bytes_eq word (codes "why") then why_asked words
    else (if bytes_eq word (codes "echo") then echo_asked words
    else (if bytes_eq word (codes "quit") then quit_asked words else OfScript))

-- what a line asks for: one with a fault, and a comment, is left to scripts
abbrev pub asked_of : List ℕ → Asked
asked_of line = if is_some (line_fault line) || is_comment line then OfScript else words_asked (words_of line)

-- the talk ends with this line
abbrev pub is_quit : Asked → Bool
is_quit Quit = true
is_quit asked = false

-- a line that is heard, of which a prefix is kept, ends the talk
abbrev pub quits : List ℕ → Bool
quits kept = is_quit (asked_of (without_return kept))

-- words behind `echo`, each with a blank before it
abbrev pub words_text : List (List ℕ) → List ℕ
words_text [] = []
words_text (word ∷ words) = codes " " ++ word ++ words_text words

-- the line that echoes words
abbrev pub echo_line : List (List ℕ) → List ℕ
echo_line words = codes "echo" ++ words_text words ++ codes "\n"

-- what a line of the code asks for, as it is meant here
abbrev pub asked_seen : code.Asked → Asked
asked_seen code_is.OfScript = OfScript
asked_seen (code_is.Why name) = Why name.now
asked_seen (code_is.Echo word words) = Echo (word.now ∷ words)
asked_seen code_is.Quit = Quit
asked_seen (code_is.Refused code) = Refused code
