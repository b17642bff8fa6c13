-- The line of a reason: which rail, how strong its path is and whether it is definite, and the path's nodes with the
-- numbers of the transistors between them.
use Rattle.std.specs.Prelude.{◌≡◌, ℕ, ◌+◌, Bool, true, false, List, [], ◌∷◌, ◌++◌, codes, decimal}
use Rattle.ternary.specs.declared.tern.Tern.{Tern}
use Rattle.switch_paths.specs.declared.walks.Walk.{Walk}
use Rattle.switch_paths.specs.Path.{Stand, Hop, at_root}
use Rattle.netlist.specs.Circuits.{CircuitData, called}

-- the word for a rail: "may be 1" is `one`, "may be 0" is `zero`
abbrev pub rail_word : Bool → List ℕ
rail_word true = codes "one"
rail_word false = codes "zero"

-- the word for a path: definite, or only possible
abbrev pub sort_word : Bool → List ℕ
sort_word true = codes "definite"
sort_word false = codes "possible"

-- a hop in a line: a blank, the number of its transistor, a blank and the name of the node that it leads to
abbrev pub hop_text : ℕ × List ℕ → List ℕ
hop_text hop = codes " " ++ decimal hop.0 ++ codes " " ++ hop.1

-- hops in a line, one after the other
abbrev pub hops_text : List (ℕ × List ℕ) → List ℕ
hops_text [] = []
hops_text (hop ∷ hops) = hop_text hop ++ hops_text hops

-- the line of a reason: `<rail> <level> <sort> <root>`, and its hops
abbrev pub reason_line_of : Bool → ℕ → Bool → List ℕ → List (ℕ × List ℕ) → List ℕ
reason_line_of one strength definite root hops =
    rail_word one ++ codes " " ++ decimal strength ++ codes " " ++ sort_word definite ++ codes " " ++ root ++ hops_text hops
    ++ codes "\n"

-- the line if there is no reason: `<rail> none`
abbrev pub no_reason_line_of : Bool → List ℕ
no_reason_line_of one = rail_word one ++ codes " none\n"

-- the hops over these places, from this stand to that, have these numbers of transistors and names of nodes;
-- transistor number k stands at place k - 1
abbrev pub AreTold : CircuitData → List Tern → Stand → List ℕ → Stand → List (ℕ × List ℕ) → Type 0
AreTold c state here [] there told = (here ≡ there) × (told ≡ [])
AreTold c state here (place ∷ places) there told =
    (next : Stand) × (rest : List (ℕ × List ℕ)) × Hop c.graph state here place next
    × (told ≡ (place + 1, called c next.node) ∷ rest) × AreTold c state next places there rest

-- the line of a walk: where it stands at its end, and its hops, are those of its path
pub record IsReasonLine (c : CircuitData) (state : List Tern) (one : Bool) (walk : Walk) (line : List ℕ) : Type 0 where
  pub there : Stand
  pub hops : List (ℕ × List ℕ)
  pub told : AreTold c state (at_root c.graph walk.root) walk.hops.items there hops
  pub text : line ≡ reason_line_of one there.strength there.definite (called c walk.root) hops
