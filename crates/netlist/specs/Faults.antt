-- Why edits of a circuit are refused.
use Rattle.std.specs.Prelude.{◌≡◌, ⊤, Option, Some}
use Rattle.netlist.specs.declared.fault.EditFault.{EditFault}
use Rattle.netlist.specs.declared.fault.EditFault.TheVariants as fault

-- why an edit that makes names or a transistor is refused
pub data MakingFault : Type 0 where
  BadStrength : MakingFault
  AliasTaken : MakingFault
  TooManyNodes : MakingFault
  TooManySwitches : MakingFault

-- such an edit answers this fault: that of its refusal, if it is refused, or lack of memory; and no other
abbrev pub IsAnswered : Option MakingFault → EditFault → Type 0
IsAnswered refusal fault.BadStrength = refusal ≡ Some MakingFault.BadStrength
IsAnswered refusal fault.AliasTaken = refusal ≡ Some MakingFault.AliasTaken
IsAnswered refusal fault.TooManyNodes = refusal ≡ Some MakingFault.TooManyNodes
IsAnswered refusal fault.TooManySwitches = refusal ≡ Some MakingFault.TooManySwitches
IsAnswered refusal fault.NoMemory = ⊤
IsAnswered refusal fault.NoSuchSwitch = ⊥
IsAnswered refusal fault.Rail = ⊥
IsAnswered refusal fault.BadSize = ⊥
