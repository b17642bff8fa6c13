-- Laws of a circuit's edits.
use Rattle.std.specs.Prelude.{◌≡◌, ℕ, ◌≤◌, List, length, true, None, is_some}
use Rattle.switch_paths.specs.declared.switching.SwitchKind.{SwitchKind}
use Rattle.netlist.specs.Circuits.{CircuitData}
use Rattle.netlist.specs.Edits.{switch_numbered, with_alias, with_input, with_kind, with_node, with_store, with_strength, with_transistor, with_wires, without_switch}

-- the later circuit is the earlier one after an edit, whichever it is
pub data IsEdit (old : CircuitData) : CircuitData → Type 0 where
  named : (name : List ℕ) → IsEdit old (with_node old name)
  added : (kind : SwitchKind) (strength : ℕ) (gate source drain : List ℕ) → IsEdit old (with_transistor old kind strength gate source drain)
  removed : (number : ℕ) → IsEdit old (without_switch old number)
  set_strength : (number strength : ℕ) → IsEdit old (with_strength old number strength)
  set_kind : (number : ℕ) (kind : SwitchKind) → IsEdit old (with_kind old number kind)
  rewired : (number : ℕ) (gate source drain : List ℕ) → IsEdit old (with_wires old number gate source drain)
  made_input : (node : ℕ) → IsEdit old (with_input old node)
  made_store : (node size : ℕ) → IsEdit old (with_store old node size)
  aliased : (first second : List ℕ) → IsEdit old (with_alias old first second)

-- the later circuit is the earlier one after edits, one after the other
pub data AreEdits : CircuitData → CircuitData → Type 0 where
  no_edit : (c : CircuitData) → AreEdits c c
  one_more : (old mid new : CircuitData) → IsEdit old mid → AreEdits mid new → AreEdits old new

-- the number was given to a transistor, and is no transistor's now
pub record IsRemoved (c : CircuitData) (number : ℕ) : Type 0 where
  pub first : 1 ≤ number
  pub given : number ≤ length c.graph.places
  pub free : switch_numbered c number ≡ None

-- the number of a transistor is removed with it
abbrev pub NumbersAreRemoved : Type 0
NumbersAreRemoved = (c : CircuitData) (number : ℕ) → is_some (switch_numbered c number) ≡ true → IsRemoved (without_switch c number) number

-- a number that is removed is never used again, whatever edits follow
abbrev pub RemovedNumbersStay : Type 0
RemovedNumbersStay = (old new : CircuitData) (number : ℕ) → AreEdits old new → IsRemoved old number → IsRemoved new number
