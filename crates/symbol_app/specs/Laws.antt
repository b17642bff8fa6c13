-- Laws of the answer of the words, of a dump, of a run under all valuations and of a comparison: if it is one.
use Rattle.std.specs.Prelude.{◌≡◌, ℕ, Bool, true, false, List}
use Rattle.command_line.specs.Requests.{Question, Compile, Explain, Request, About, OverDeck, request_of}
use Rattle.run_ends.specs.Answers.{Answer}
use Rattle.circuit_reports.specs.Alike.{AreAlike}
use Rattle.cosmos_app.specs.Answers.{IsAnswer}
use Rattle.symbol_app.specs.Comparisons.{IsComparedOver}
use Rattle.cosmos_app.specs.Dumping.{IsDump}
use Rattle.cosmos_app.specs.Named.{circuit_named}
use Rattle.symbol_app.specs.Symbolic.{IsSymbolicOver}

-- the question leaves a choice: any faithful listing answers it, or any of the strongest reasons
abbrev pub leaves_choice : Question → Bool
leaves_choice Compile = true
leaves_choice (Explain script node) = true
leaves_choice question = false

-- the request asks for a listing or for reasons
abbrev pub asks_choice : Request → Bool
asks_choice (About net question) = leaves_choice question
asks_choice (OverDeck deck question) = leaves_choice question
asks_choice request = false

-- words that ask neither for a listing nor for reasons have one answer, by what the files hold
abbrev pub AnswersAreUnique : Type 0
AnswersAreUnique =
    (words : List (List ℕ)) (holds : List ℕ → List ℕ) (first second : Answer) → asks_choice (request_of words) ≡ false →
    IsAnswer words holds first → IsAnswer words holds second → first ≡ second

-- any two answers of the words have one status, and the same texts of groups are analysed for them, whatever the words ask for
abbrev pub AnswersAreAlike : Type 0
AnswersAreAlike =
    (words : List (List ℕ)) (holds : List ℕ → List ℕ) (first second : Answer) → IsAnswer words holds first → IsAnswer words holds second →
    AreAlike first second

-- the dump of a script's run is one answer, by what the two names hold
abbrev pub DumpsHaveOneAnswer : Type 0
DumpsHaveOneAnswer =
    (net script : List ℕ) (holds : List ℕ → List ℕ) (first second : Answer) → IsDump net script holds first → IsDump net script holds second →
    first ≡ second

-- a run under all valuations has one answer, by what the two names hold
abbrev pub SymbolicRunsHaveOneAnswer : Type 0
SymbolicRunsHaveOneAnswer =
    (net script : List ℕ) (holds : List ℕ → List ℕ) (first second : Answer) → IsSymbolicOver (holds script) (circuit_named net (holds net)) first →
    IsSymbolicOver (holds script) (circuit_named net (holds net)) second → first ≡ second

-- and a comparison, by what the three names hold
abbrev pub ComparisonsHaveOneAnswer : Type 0
ComparisonsHaveOneAnswer =
    (one other script : List ℕ) (holds : List ℕ → List ℕ) (first second : Answer) →
    IsComparedOver (holds script) (circuit_named one (holds one)) (circuit_named other (holds other)) first →
    IsComparedOver (holds script) (circuit_named one (holds one)) (circuit_named other (holds other)) second → first ≡ second
