-- What a comparison of two circuits by a symbolic script comes to.
use Rattle.std.specs.Prelude.{◌≡◌, ◌⊎◌, ℕ, true, List, [], ◌∷◌, ◌++◌, codes, Option, Some, None, Result, Ok, Err}
use Rattle.line_words.specs.Files.{lines_in, cut_line}
use Rattle.netlist.specs.Circuits.{CircuitData}
use Rattle.group_text.specs.Texts.{GroupTextData}
use Rattle.run_ends.specs.declared.stop.End as end
use Rattle.run_ends.specs.declared.stop.Stop.{Stop}
use Rattle.run_ends.specs.Answers.{Answer}
use Rattle.session_meaning.specs.Sessions.{start_of}
use Rattle.symbol_meaning.specs.Comparing.{IsEqualAnswer}
use Rattle.symbol_meaning.specs.Scripts.{before_stop, bound_of_script, read_of, stop_of}
use Rattle.symbol_equiv.specs.declared.fault.EqualFault.{EqualFault}
use Rattle.symbol_equiv.specs.declared.fault.EqualFault.TheVariants as fault
use Rattle.symbol_app.specs.declared.ends.SymbolEnd.{SymbolEnd}
use Rattle.symbol_app.specs.declared.ends.SymbolEnd.TheVariants.{Ended, Full}
use Rattle.cosmos_app.specs.declared.named.CircuitRefusal.{CircuitRefusal}
use Rattle.cosmos_app.specs.Named.{IsCircuitRefusal, circuit_named}
use Rattle.symbol_app.specs.InTurn.{IsBehind}
use Rattle.symbol_app.specs.Symbolic.{stop_unread, IsNever, IsToldInAll}

-- how a comparison ends, which may have so many vertices
abbrev pub ended_comparison : ℕ → Result end.End EqualFault → Result SymbolEnd Stop
ended_comparison vertices (Ok ending) = Ok (Ended ending)
ended_comparison vertices (Err (fault.Stopped stop)) = Err (stop_unread stop)
ended_comparison vertices (Err (fault.FullAt number)) = Ok (Full vertices (Some number))
ended_comparison vertices (Err fault.Full) = Ok (Full vertices None)

-- ---- a script in two circuits

-- the answer of a script's lines that compare two circuits, each from its start
abbrev pub IsComparedIn : List ℕ → CircuitData → CircuitData → Answer → Type 0
IsComparedIn script one other answer = IsEqualAnswer (cut_line script) (start_of one) (start_of other) (lines_in script) answer

-- the line with this number is one of those that are obeyed
abbrev pub IsObeyedLine : Option ℕ → List (ℕ × List ℕ) → ℕ → Type 0
IsObeyedLine cut lines number =
    (text : List ℕ) × (earlier : List (ℕ × List ℕ)) × (later : List (ℕ × List ℕ)) × (before_stop (stop_of true cut lines) lines ≡ earlier ++ (number, text) ∷ later)

-- a text is a prefix of a right answer's
pub record IsFront (IsRight : Answer → Type 0) (written : List ℕ) : Type 0 where
  pub answer : Answer
  pub right : IsRight answer
  pub rest : List ℕ
  pub front : answer.text ≡ written ++ rest

-- where vertices ran out: at a line of a run, and nothing was written; or behind a run, and what was written is nothing, or a prefix of a right
-- answer's text
abbrev pub RunsOutWhere : List ℕ → CircuitData → CircuitData → Option ℕ → List ℕ → Type 0
RunsOutWhere script one other (Some number) written = IsObeyedLine (cut_line script) (lines_in script) number × (written ≡ [])
RunsOutWhere script one other None written = (written ≡ []) ⊎ IsFront (IsComparedIn script one other) written

-- there may be as many vertices as the script says, and one more was wanted there
pub record RunsOutComparing (script : List ℕ) (one other : CircuitData) (vertices : ℕ) (line : Option ℕ) (written : List ℕ) : Type 0 where
  pub bound : vertices ≡ bound_of_script (read_of true (cut_line script) (lines_in script))
  pub place : RunsOutWhere script one other line written

-- ---- over netlists or decks

-- the answer over a second one that means this, behind the circuit of the first
abbrev pub IsComparedBehind : List ℕ → CircuitData → Result CircuitData CircuitRefusal → Answer → Type 0
IsComparedBehind script one (Ok other) answer = IsComparedIn script one other answer
IsComparedBehind script one (Err refusal) answer = IsBehind (codes "second net: ") (IsCircuitRefusal refusal) answer

-- the answer over both: a refusal of the first is told before one of the second
abbrev pub IsComparedOver : List ℕ → Result CircuitData CircuitRefusal → Result CircuitData CircuitRefusal → Answer → Type 0
IsComparedOver script (Ok one) other answer = IsComparedBehind script one other answer
IsComparedOver script (Err refusal) other answer = IsBehind (codes "first net: ") (IsCircuitRefusal refusal) answer

-- vertices run out in two circuits alone
abbrev pub RunsOutBehind : List ℕ → CircuitData → Result CircuitData CircuitRefusal → ℕ → Option ℕ → List ℕ → Type 0
RunsOutBehind script one (Ok other) vertices line written = RunsOutComparing script one other vertices line written
RunsOutBehind script one (Err refusal) vertices line written = IsNever vertices line written

abbrev pub RunsOutOverBoth : List ℕ → Result CircuitData CircuitRefusal → Result CircuitData CircuitRefusal → ℕ → Option ℕ → List ℕ → Type 0
RunsOutOverBoth script (Ok one) other vertices line written = RunsOutBehind script one other vertices line written
RunsOutOverBoth script (Err refusal) other vertices line written = IsNever vertices line written

-- so it was told of what three names hold: of a deck or a netlist each of the first two, and of a script
abbrev pub IsComparedTo : List ℕ → List ℕ → List ℕ → (List ℕ → List ℕ) → Option (List ℕ) → Option (List ℕ) → List GroupTextData → List GroupTextData →
    Result SymbolEnd Stop → Type 0
IsComparedTo one other script holds old new before after result =
    IsToldInAll (IsComparedOver (holds script) (circuit_named one (holds one)) (circuit_named other (holds other)))
    (RunsOutOverBoth (holds script) (circuit_named one (holds one)) (circuit_named other (holds other)))
    old new before after result
