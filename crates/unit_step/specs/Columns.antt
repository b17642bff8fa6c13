-- What a part's code gives in each of many columns.
use Rattle.std.specs.Prelude.{◌≡◌, ℕ, ◌<◌, List, map, take, Some}
use Rattle.std.specs.declared.rc.Rc.{Rc}
use Rattle.std.proofs.Common.{Global}
use Rattle.ternary.specs.declared.tern.Tern.{Tern}
use Rattle.switch_paths.specs.Switching.{state_at}
use Rattle.straight_code.specs.Code.{CodeData, code_value}
use Rattle.word_columns.specs.Columns.{AreRailsIn}
use Rattle.machine_parts.specs.declared.part.MachinePart.{MachinePart}

-- in each column whose words are states the first words have what the part's code, if it has one, gives to its members
abbrev pub GivesWords : MachinePart → List ℕ → List ℕ → List ℕ → List ℕ → Type 0
GivesWords part hi lo ones others =
    (code : Rc CodeData Global) → part.code ≡ Some code → (column : ℕ) (state : List Tern) → column < 64 → AreRailsIn column hi lo state →
    AreRailsIn column (take part.members ones) (take part.members others) (code_value code.value (map (state_at state) part.map.items))
