-- Worked decks, computed from the definitions.
use Rattle.std.proofs.Common.{◌≡◌, ℕ, List, [], ◌∷◌, ◌++◌, codes, Result, Ok, Err, refl}
use Rattle.switch_paths.specs.declared.switching.SwitchKind.TheVariants.{NChan, PChan}
use Rattle.spice_cards.specs.declared.fault.DeckRefusal.{DeckRefusal}
use Rattle.spice_cards.specs.declared.fault.DeckWhat.TheVariants.{BadCard, BadModel, NoSubckt, Recursion}
use Rattle.spice_cards.specs.CardLines.{line_sort}
use Rattle.spice_cards.specs.Reading.{cards_of, line_meaning, lines_meaning, refusal_at, titled_meaning}
use Rattle.spice_cards.proofs.Worked.{two_inverters}
use Rattle.spice_read.specs.Making.{circuit_of, onward}
use Rattle.spice_read.specs.Steps.{Step, expand, steps_of}
use Rattle.spice_read.specs.Steps.Step.{opened, placed}

-- the expansion of a text that is read
expansion_of : List ℕ → Result (List Step) DeckRefusal
expansion_of text = onward (cards_of text) (λ deck. Ok (steps_of deck))

-- a subcircuit that calls itself
recursion : circuit_of (codes "t" ++ 10 ∷ codes ".subckt s a" ++ 10 ∷ codes "x1 a s" ++ 10 ∷ codes ".ends" ++ 10 ∷ codes "x1 b s" ++ 10 ∷ []) ≡ Err (refusal_at 3 Recursion)
unfolding circuit_of cards_of titled_meaning lines_meaning line_meaning line_sort expand
recursion = refl

-- a call of no subcircuit
no_subcircuit : circuit_of (codes "t" ++ 10 ∷ codes "x1 a b s" ++ 10 ∷ []) ≡ Err (refusal_at 2 NoSubckt)
unfolding circuit_of cards_of titled_meaning lines_meaning line_meaning line_sort expand
no_subcircuit = refl

-- a model that has no kind
no_model : circuit_of (codes "t" ++ 10 ∷ codes "m1 o i 0 0 cmosn" ++ 10 ∷ []) ≡ Err (refusal_at 2 BadModel)
unfolding circuit_of cards_of titled_meaning lines_meaning line_meaning line_sort expand
no_model = refl

-- a letter that begins no card
no_such_card : circuit_of (codes "t" ++ 10 ∷ codes "q1 a b c m" ++ 10 ∷ []) ≡ Err (refusal_at 2 BadCard)
unfolding circuit_of cards_of titled_meaning lines_meaning line_meaning line_sort expand
no_such_card = refl

-- two inverters
are_expanded : expansion_of two_inverters ≡ Ok (
    opened 9 ∷ placed 4 PChan 2 (codes "in") (codes "vdd!") (codes "m") ∷ placed 5 NChan 2 (codes "in") (codes "Gnd") (codes "m")
    ∷ opened 10 ∷ placed 4 PChan 2 (codes "m") (codes "vdd!") (codes "out") ∷ placed 5 NChan 2 (codes "m") (codes "Gnd") (codes "out") ∷ [])
unfolding cards_of titled_meaning lines_meaning line_meaning line_sort expand two_inverters expansion_of
are_expanded = refl

-- calls inside one another: a port named twice, a global name that a port hides and one that none does, `0`, and a node of each call
inside_calls : List ℕ
inside_calls =
    codes "t" ++ 10 ∷ codes ".global g h" ++ 10 ∷ codes ".subckt s a b a h" ++ 10 ∷ codes "mn a b n 0 n strength=3" ++ 10
    ∷ codes "mp n g h h p" ++ 10 ∷ codes ".ends" ++ 10 ∷ codes ".subckt t a" ++ 10 ∷ codes "x1 a b c d s" ++ 10 ∷ codes ".ends" ++ 10
    ∷ codes "x1 0 t" ++ 10 ∷ codes "x2 u v w h s" ++ 10 ∷ []

are_named : expansion_of inside_calls ≡ Ok (
    opened 10 ∷ opened 8 ∷ placed 4 NChan 3 (codes "x1.b") (codes "x1.x1.n") (codes "x1.c")
    ∷ placed 5 PChan 2 (codes "g") (codes "x1.d") (codes "x1.x1.n")
    ∷ opened 11 ∷ placed 4 NChan 3 (codes "v") (codes "x2.n") (codes "w") ∷ placed 5 PChan 2 (codes "g") (codes "h") (codes "x2.n") ∷ [])
unfolding cards_of titled_meaning lines_meaning line_meaning line_sort expand inside_calls expansion_of
are_named = refl
