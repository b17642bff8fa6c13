-- The printed line of a refusal.
use Rattle.std.specs.Prelude.{ℕ, List, ◌++◌, codes, decimal}
use Rattle.spice_cards.specs.declared.fault.DeckWhat.{DeckWhat}
use Rattle.spice_cards.specs.declared.fault.DeckWhat.TheVariants as what

-- the code and the name of each cause
abbrev pub cause_text : DeckWhat → List ℕ
cause_text what.TooLong = codes "N4 TooLong"
cause_text what.LineTooLong = codes "L1 LineTooLong"
cause_text what.BadByte = codes "L2 BadByte"
cause_text what.BadCard = codes "P1 BadCard"
cause_text what.FewWords = codes "P2 FewWords"
cause_text what.BadNesting = codes "P3 BadNesting"
cause_text what.Redefined = codes "P4 Redefined"
cause_text what.NoSubckt = codes "P5 NoSubckt"
cause_text what.PortCount = codes "P6 PortCount"
cause_text what.Recursion = codes "P7 Recursion"
cause_text what.TooDeep = codes "P8 TooDeep"
cause_text what.TooManyCalls = codes "P9 TooManyCalls"
cause_text what.BadModel = codes "P10 BadModel"
cause_text what.BadStrength = codes "E4 BadStrength"
cause_text what.TooManyNodes = codes "E7 TooManyNodes"
cause_text what.TooManySwitches = codes "E8 TooManySwitches"

-- the line: `deck line`, the number and the cause, ended by LF
abbrev pub deck_line_of : ℕ → DeckWhat → List ℕ
deck_line_of line what = codes "deck line " ++ decimal line ++ codes ": " ++ cause_text what ++ codes "\n"
