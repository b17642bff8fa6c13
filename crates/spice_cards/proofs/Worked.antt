-- Worked decks, computed from the definitions.
use Rattle.std.proofs.Common.{◌≡◌, ℕ, List, [], ◌∷◌, ◌++◌, codes, Ok, Err, refl, None}
use Rattle.switch_paths.specs.declared.switching.SwitchKind.TheVariants.{NChan}
use Rattle.spice_cards.specs.declared.fault.DeckWhat.TheVariants.{BadCard, BadNesting}
use Rattle.spice_cards.specs.declared.sorts.PartSort.TheVariants.{Transistor, Call}
use Rattle.spice_cards.specs.declared.sorts.Strength.TheVariants.{Usual}
use Rattle.spice_cards.specs.CardLines.{line_sort}
use Rattle.spice_cards.specs.Decks.{DeckCards}
use Rattle.spice_cards.specs.Reading.{cards_of, line_meaning, lines_meaning, refusal_at, titled_meaning}

-- a letter that begins no card
no_such_card : cards_of (codes "t" ++ 10 ∷ codes "q1 a b c m" ++ 10 ∷ []) ≡ Err (refusal_at 2 BadCard)
unfolding cards_of titled_meaning lines_meaning line_meaning line_sort
no_such_card = refl

-- two inverters
unfoldable pub two_inverters : List ℕ
two_inverters =
    codes "two inverters" ++ 10 ∷ codes ".global vdd!" ++ 10 ∷ codes ".SUBCKT inv a y vdd gnd" ++ 10
    ∷ codes "mp y a vdd vdd pmos w=2u l=0.18u" ++ 10 ∷ codes "mn y a gnd gnd cmosn w=1u" ++ 10
    ∷ codes "* the length follows" ++ 10 ∷ codes "+ l=0.18u" ++ 10 ∷ codes ".ends inv" ++ 10
    ∷ codes "X1 in m vdd! 0 inv" ++ 10 ∷ codes "x2 m out vdd! 0 inv" ++ 10
    ∷ codes ".model cmosn nmos (level=1)" ++ 10 ∷ codes "c1 out 0 10f" ++ 10 ∷ codes ".end" ++ 10 ∷ []

are_two_inverters : cards_of two_inverters ≡ Ok (record {
  outside =
      record { line = 9; sort = Call; words = codes "x1" ∷ codes "in" ∷ codes "m" ∷ codes "vdd!" ∷ codes "0" ∷ codes "inv" ∷ [] }
      ∷ record { line = 10; sort = Call; words = codes "x2" ∷ codes "m" ∷ codes "out" ∷ codes "vdd!" ∷ codes "0" ∷ codes "inv" ∷ [] }
      ∷ [];
  subcircuits = (
    codes "inv",
    record {
      line = 3;
      ports = codes "a" ∷ codes "y" ∷ codes "vdd" ∷ codes "gnd" ∷ [];
      parts =
          record { line = 4; sort = Transistor Usual; words = codes "mp" ∷ codes "y" ∷ codes "a" ∷ codes "vdd" ∷ codes "vdd" ∷ codes "pmos" ∷ [] }
          ∷ record { line = 5; sort = Transistor Usual; words = codes "mn" ∷ codes "y" ∷ codes "a" ∷ codes "gnd" ∷ codes "gnd" ∷ codes "cmosn" ∷ [] }
          ∷ [];
    },
  ) ∷ [];
  models = (codes "cmosn", NChan) ∷ [];
  globals = (codes "vdd!", tt) ∷ [];
})
unfolding cards_of titled_meaning lines_meaning line_meaning line_sort two_inverters
are_two_inverters = refl

-- a subcircuit that nothing ends
never_ended : cards_of (codes "t" ++ 10 ∷ codes ".subckt s a" ++ 10 ∷ codes "x1 a s" ++ 10 ∷ []) ≡ Err (refusal_at 2 BadNesting)
unfolding cards_of titled_meaning lines_meaning line_meaning line_sort
never_ended = refl
