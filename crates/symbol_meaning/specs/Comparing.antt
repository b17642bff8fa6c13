-- Two circuits that are compared by a symbolic script: the letters of their waveform lines, under each valuation, for each word that is watched.
use Rattle.std.specs.Prelude.{◌≡◌, ◌≢◌, ℕ, suc, ◌<◌, Bool, true, List, [], ◌∷◌, ◌++◌, length, map, filter_map, take, drop, zip, codes, decimal, Option, Some, None, Result, Ok, Err}
use Rattle.std.specs.List.{flat_map}
use Rattle.ternary.specs.declared.tern.Tern.{Tern}
use Rattle.ternary.specs.Tern.{letter}
use Rattle.group_text.specs.Texts.{GroupTextData}
use Rattle.netlist.specs.Circuits.{CircuitData}
use Rattle.script_lang.specs.declared.command.Command.{Command}
use Rattle.script_lang.specs.declared.command.Command.TheVariants as family
use Rattle.script_lang.specs.declared.command.Setup.TheVariants.{Watch}
use Rattle.script_lang.specs.declared.command.ScriptFault.{ScriptFault}
use Rattle.told_lines.specs.Lines.{Line, Wave}
use Rattle.run_ends.specs.declared.status.Status.TheVariants.{Done, Mismatch, ScriptRefused}
use Rattle.run_ends.specs.Answers.{Answer}
use Rattle.session_meaning.specs.Sessions.{SessionData}
use Rattle.session_meaning.specs.Refusals.{nodes_named}
use Rattle.script_meaning.specs.Runs.{Reading, RefusedLine}
use Rattle.script_meaning.specs.FirstRefused.{IsObeyed}
use Rattle.symbol_meaning.specs.Scripts.{NamedStop, before_stop, read_of, stop_of, variables_of}
use Rattle.symbol_meaning.specs.Readings.{Valuations, reading_under, valuations_of}
use Rattle.symbol_meaning.specs.Told.{SymbolTold, where_text}
use Rattle.symbol_meaning.specs.Runs.{RunsInAll, end_text}

-- ---- what one circuit shows under one valuation

-- a watched word, and how many nodes it stood for
abbrev pub Watched : Type 0
Watched = List ℕ × ℕ

-- a waveform line by its number, and each word that was watched by then, in order, with the states of its nodes
abbrev pub Shown : Type 0
Shown = ℕ × List (List ℕ × List Tern)

-- the words that a command watches
abbrev pub words_of_command : CircuitData → List (List ℕ × List ℕ) → Command → List Watched
words_of_command c vectors (family.Setup (Watch names)) = map (λ name. (name, length (nodes_named c vectors name))) names
words_of_command c vectors command = []

-- those that a line watches
abbrev pub words_of_reading : CircuitData → List (List ℕ × List ℕ) → Result (Option Command) ScriptFault → List Watched
words_of_reading c vectors (Ok (Some command)) = words_of_command c vectors command
words_of_reading c vectors (Ok None) = []
words_of_reading c vectors (Err fault) = []

abbrev pub words_of_line : Reading → SessionData → ℕ × List ℕ → List Watched
words_of_line reading session line = words_of_reading session.circuit session.vectors (reading session.circuit session.vectors line.1)

-- the states of a waveform line, each word's apart
abbrev pub by_words : List Watched → List Tern → List (List ℕ × List Tern)
by_words [] states = []
by_words (own ∷ words) states = (own.0, take own.1 states) ∷ by_words words (drop own.1 states)

-- what a line shows, if it is a waveform line
abbrev pub shown_by : List Watched → Line → Option Shown
shown_by words (Wave n k mark states) = Some (n, by_words words states)
shown_by words other = None

-- lines that are obeyed one after the other, where these words are watched before them, show this
pub data ShowsWaves (reading : Reading) (cut : Option ℕ) : List Watched → SessionData → List (ℕ × List ℕ) → SessionData → List Shown → Type 0 where
  no_line : (words : List Watched) (session : SessionData) → ShowsWaves reading cut words session [] session []
  one_more : (words : List Watched) (old mid new : SessionData) (line : ℕ × List ℕ) (lines : List (ℕ × List ℕ)) (wrote : List Line) (texts : List GroupTextData)
      (more : List Shown) → IsObeyed reading cut old line mid wrote texts →
      ShowsWaves reading cut (words ++ words_of_line reading old line) mid lines new more →
      ShowsWaves reading cut words old (line ∷ lines) new (filter_map (shown_by words) wrote ++ more)

-- ---- differences

-- a word whose letters differ under some valuation: the number of the waveform line, the word, under the first such valuation the letters in both
-- circuits, and the truth values of the variables
pub record Difference : Type 0 where
  pub line : ℕ
  pub word : List ℕ
  pub one : List Tern
  pub other : List Tern
  pub truths : List Bool

-- the column is the first in which a word's letters differ, also in their number
pub record IsFirstDifferent (v : Valuations) (line : ℕ) (word : List ℕ) (one other : ℕ → List Tern) (own : Difference) : Type 0 where
  pub column : ℕ
  pub inside : column < v.columns
  pub differ : one column ≢ other column
  pub same_before : (earlier : ℕ) → earlier < column → one earlier ≡ other earlier
  pub own_is : own ≡ record { line = line; word = word; one = one column; other = other column; truths = v.truths column }

-- what is told of a word: nothing if its letters are the same under all valuations
abbrev pub IsComparedWord : Valuations → ℕ → List ℕ → (ℕ → List Tern) → (ℕ → List Tern) → List Difference → Type 0
IsComparedWord v line word one other [] = (column : ℕ) → column < v.columns → one column ≡ other column
IsComparedWord v line word one other (own ∷ []) = IsFirstDifferent v line word one other own
IsComparedWord v line word one other (own ∷ second ∷ more) = ⊥

-- of the words of a waveform line, in order: in each column both circuits have the same words
pub data AreComparedWords (v : Valuations) (line : ℕ) : (one other : ℕ → List (List ℕ × List Tern)) → List Difference → Type 0 where
  no_word : (one other : ℕ → List (List ℕ × List Tern)) → ((column : ℕ) → column < v.columns → (one column ≡ []) × (other column ≡ [])) →
      AreComparedWords v line one other []
  one_more : (one other more_one more_other : ℕ → List (List ℕ × List Tern)) (word : List ℕ) (first second : ℕ → List Tern) (told more : List Difference) →
      ((column : ℕ) → column < v.columns → (one column ≡ (word, first column) ∷ more_one column) × (other column ≡ (word, second column) ∷ more_other column)) →
      IsComparedWord v line word first second told → AreComparedWords v line more_one more_other more → AreComparedWords v line one other (told ++ more)

-- of waveform lines, in order: in each column both circuits have the same ones, so many
pub data AreCompared (v : Valuations) : (one other : ℕ → List Shown) → ℕ → List Difference → Type 0 where
  no_wave : (one other : ℕ → List Shown) → ((column : ℕ) → column < v.columns → (one column ≡ []) × (other column ≡ [])) → AreCompared v one other 0 []
  one_more : (one other more_one more_other : ℕ → List Shown) (line count : ℕ) (first second : ℕ → List (List ℕ × List Tern)) (told more : List Difference) →
      ((column : ℕ) → column < v.columns → (one column ≡ (line, first column) ∷ more_one column) × (other column ≡ (line, second column) ∷ more_other column)) →
      AreComparedWords v line first second told → AreCompared v more_one more_other count more → AreCompared v one other (suc count) (told ++ more)

-- ---- texts

-- the line of a difference: `differ <n> <word> <letters of the first> <letters of the second> where ..`
abbrev pub difference_text : List (List ℕ) → Difference → List ℕ
difference_text variables own =
    codes "differ " ++ decimal own.line ++ codes " " ++ own.word ++ codes " " ++ map letter own.one ++ codes " " ++ map letter own.other
    ++ where_text (zip variables own.truths) ++ codes "\n"

-- the last line: `equal` and the number of waveform lines, or `different` and the number of differences
abbrev pub count_text : ℕ → List Difference → List ℕ
count_text waves [] = codes "equal " ++ decimal waves ++ codes "\n"
count_text waves (own ∷ others) = codes "different " ++ decimal (length (own ∷ others)) ++ codes "\n"

abbrev pub compared_text : List (List ℕ) → ℕ → List Difference → List ℕ
compared_text variables waves told = flat_map (difference_text variables) told ++ count_text waves told

-- the answer that tells it
abbrev pub compared_answer : List (List ℕ) → ℕ → List Difference → List GroupTextData → Answer
compared_answer variables waves [] texts = record { status = Done; text = compared_text variables waves []; texts = texts }
compared_answer variables waves (own ∷ others) texts = record { status = Mismatch; text = compared_text variables waves (own ∷ others); texts = texts }

-- the answer that tells a refusal alone, in this circuit
abbrev pub refused_answer : List ℕ → Option RefusedLine → Option NamedStop → List GroupTextData → Answer
refused_answer net last stop texts = record { status = ScriptRefused; text = net ++ end_text last stop; texts = texts }

-- ---- the answer

-- a line of the script is refused, when it is reached or by its names
abbrev pub IsEnded : Option RefusedLine → Option NamedStop → Type 0
IsEnded (Some stopped) stop = Unit {0}
IsEnded None (Some stop) = Unit {0}
IsEnded None None = ⊥

-- the script's run in a circuit from some data, to the end or to this refusal
pub record RunsIn (cut : Option ℕ) (start : SessionData) (lines : List (ℕ × List ℕ)) (last : Option RefusedLine) (texts : List GroupTextData) : Type 0 where
  pub end : ℕ → SessionData
  pub told : List SymbolTold
  pub runs : RunsInAll true (valuations_of (read_of true cut lines)) cut (λ column. start) (before_stop (stop_of true cut lines) lines) end told texts last

-- what the script's run in a circuit shows in each column
abbrev pub ShowsIn : Option ℕ → SessionData → List (ℕ × List ℕ) → (ℕ → List Shown) → Type 0
ShowsIn cut start lines shown =
    (column : ℕ) → column < (valuations_of (read_of true cut lines)).columns → (end : SessionData) ×
    ShowsWaves (reading_under true ((valuations_of (read_of true cut lines)).values column)) cut [] start lines end (shown column)

-- no line is refused in either run, and this is what was compared
pub record IsComparison (cut : Option ℕ) (one other : SessionData) (lines : List (ℕ × List ℕ)) (answer : Answer) : Type 0 where
  pub first_texts : List GroupTextData
  pub second_texts : List GroupTextData
  pub by_names : stop_of true cut lines ≡ None
  pub first : RunsIn cut one lines None first_texts
  pub second : RunsIn cut other lines None second_texts
  pub first_shown : ℕ → List Shown
  pub second_shown : ℕ → List Shown
  pub first_shows : ShowsIn cut one lines first_shown
  pub second_shows : ShowsIn cut other lines second_shown
  pub waves : ℕ
  pub told : List Difference
  pub compared : AreCompared (valuations_of (read_of true cut lines)) first_shown second_shown waves told
  pub told_is : answer ≡ compared_answer (variables_of (read_of true cut lines)) waves told (first_texts ++ second_texts)

-- a line is refused in the first run
pub record IsRefusedFirst (cut : Option ℕ) (one : SessionData) (lines : List (ℕ × List ℕ)) (answer : Answer) : Type 0 where
  pub last : Option RefusedLine
  pub runs : RunsIn cut one lines last answer.texts
  pub ended : IsEnded last (stop_of true cut lines)
  pub told_is : answer ≡ refused_answer (codes "first net: ") last (stop_of true cut lines) answer.texts

-- none in the first, and one in the second
pub record IsRefusedSecond (cut : Option ℕ) (one other : SessionData) (lines : List (ℕ × List ℕ)) (answer : Answer) : Type 0 where
  pub first_texts : List GroupTextData
  pub second_texts : List GroupTextData
  pub by_names : stop_of true cut lines ≡ None
  pub first : RunsIn cut one lines None first_texts
  pub stopped : RefusedLine
  pub second : RunsIn cut other lines (Some stopped) second_texts
  pub told_is : answer ≡ refused_answer (codes "second net: ") (Some stopped) None (first_texts ++ second_texts)

-- the answer of a script's lines that compare two circuits, from their data: a refusal in the first run is told before one in the second
pub data IsEqualAnswer (cut : Option ℕ) (one other : SessionData) (lines : List (ℕ × List ℕ)) (answer : Answer) : Type 0 where
  compared : IsComparison cut one other lines answer → IsEqualAnswer cut one other lines answer
  refused_first : IsRefusedFirst cut one lines answer → IsEqualAnswer cut one other lines answer
  refused_second : IsRefusedSecond cut one other lines answer → IsEqualAnswer cut one other lines answer
