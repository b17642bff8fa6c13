-- A run under all valuations and a comparison have one answer, over netlists or decks.
use Rattle.std.proofs.Common.{◌≡◌, ℕ, List, codes, Result, Ok, Err, sym, ap, ◌∙◌}
use Rattle.line_words.specs.Files.{cut_line, lines_in}
use Rattle.netlist.specs.Circuits.{CircuitData}
use Rattle.run_ends.specs.Answers.{Answer}
use Rattle.session_meaning.specs.Sessions.{start_of}
use Rattle.symbol_meaning.proofs.UniqueAnswers.{answers_unique}
use Rattle.cosmos_app.specs.declared.named.CircuitRefusal.{CircuitRefusal}
use Rattle.cosmos_app.specs.declared.named.CircuitRefusal.TheVariants.{Deck, Net}
use Rattle.symbol_app.specs.Comparisons.{IsComparedBehind, IsComparedOver}
use Rattle.symbol_app.specs.Laws.{ComparisonsHaveOneAnswer, SymbolicRunsHaveOneAnswer}
use Rattle.cosmos_app.specs.Named.{circuit_named, IsCircuitRefusal, IsOverEither}
use Rattle.symbol_app.specs.InTurn.{answer_behind, IsBehind}
use Rattle.symbol_app.specs.Symbolic.{IsSymbolicOver}
use Rattle.symbol_app.proofs.UniqueComparisons.{equal_unique}

-- a refusal has one answer, also behind a text
refusal_unique : (refusal : CircuitRefusal) (first second : Answer) → IsCircuitRefusal refusal first → IsCircuitRefusal refusal second → first ≡ second
refusal_unique (Net refusal) first second one two = one ∙ sym two
refusal_unique (Deck refusal) first second one two = one ∙ sym two

behind_unique : (front : List ℕ) (refusal : CircuitRefusal) (first second : Answer) → IsBehind front (IsCircuitRefusal refusal) first →
    IsBehind front (IsCircuitRefusal refusal) second → first ≡ second
behind_unique front refusal first second (own, right, is) (other, also, same) =
    is ∙ ap (answer_behind front) (refusal_unique refusal own other right also) ∙ sym same

-- so what is told of a netlist or a deck has one answer, if it has one in a circuit
pub either_unique : (IsRight : CircuitData → Answer → Type 0) →
    ((circuit : CircuitData) (first second : Answer) → IsRight circuit first → IsRight circuit second → first ≡ second) →
    (meaning : Result CircuitData CircuitRefusal) (first second : Answer) → IsOverEither IsRight meaning first → IsOverEither IsRight meaning second →
    first ≡ second
either_unique IsRight each (Ok circuit) first second one two = each circuit first second one two
either_unique IsRight each (Err refusal) first second one two = refusal_unique refusal first second one two

-- a run under all valuations
symbolic_over_unique : (script : List ℕ) (meaning : Result CircuitData CircuitRefusal) (first second : Answer) → IsSymbolicOver script meaning first →
    IsSymbolicOver script meaning second → first ≡ second
symbolic_over_unique script (Ok circuit) first second one two =
    answers_unique (cut_line script) (start_of circuit) (lines_in script) first second one two
symbolic_over_unique script (Err refusal) first second one two = refusal_unique refusal first second one two

pub symbolic_unique : SymbolicRunsHaveOneAnswer
symbolic_unique net script holds first second one two = symbolic_over_unique (holds script) (circuit_named net (holds net)) first second one two

-- a comparison
behind_circuit_unique : (script : List ℕ) (circuit : CircuitData) (meaning : Result CircuitData CircuitRefusal) (first second : Answer) →
    IsComparedBehind script circuit meaning first → IsComparedBehind script circuit meaning second → first ≡ second
behind_circuit_unique script circuit (Ok other) first second one two =
    equal_unique (cut_line script) (start_of circuit) (start_of other) (lines_in script) first second one two
behind_circuit_unique script circuit (Err refusal) first second one two = behind_unique (codes "second net: ") refusal first second one two

compared_over_unique : (script : List ℕ) (meaning other : Result CircuitData CircuitRefusal) (first second : Answer) → IsComparedOver script meaning other first →
    IsComparedOver script meaning other second → first ≡ second
compared_over_unique script (Ok circuit) other first second one two = behind_circuit_unique script circuit other first second one two
compared_over_unique script (Err refusal) other first second one two = behind_unique (codes "first net: ") refusal first second one two

pub comparisons_unique : ComparisonsHaveOneAnswer
comparisons_unique one other script holds first second is also =
    compared_over_unique (holds script) (circuit_named one (holds one)) (circuit_named other (holds other)) first second is also
