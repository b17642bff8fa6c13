-- The words that ask for a run under all valuations of a script's variables, or for a comparison of two circuits by such a script.
use Rattle.std.specs.Prelude.{ℕ, List, [], ◌∷◌, codes, bytes_eq, if◌then◌else◌, Option, Some, None}

-- the names of the netlist or the deck, and of the script, for whose run under all valuations words ask: `symbolic NET SCRIPT`
abbrev pub symbolic_names : List (List ℕ) → Option (List ℕ × List ℕ)
symbolic_names (command ∷ net ∷ script ∷ []) = if bytes_eq command (codes "symbolic") then Some (net, script) else None
symbolic_names words = None

-- the names of two netlists or decks, and of the script, by which words ask to compare them: `equiv NET1 NET2 SCRIPT`
abbrev pub equiv_names : List (List ℕ) → Option (List ℕ × List ℕ × List ℕ)
equiv_names (command ∷ one ∷ other ∷ script ∷ []) = if bytes_eq command (codes "equiv") then Some (one, other, script) else None
equiv_names words = None
