-- Edits of a transistor that leave its terminals: what stands at its place afterwards, and when such an edit can't be done.
use Rattle.std.specs.Prelude.{ℕ, option_map, Option, None}
use Rattle.strength_order.specs.Levels.{level_of_strength}
use Rattle.switch_paths.specs.declared.switching.Switch.{Switch}
use Rattle.netlist.specs.declared.fault.EditFault.{EditFault}
use Rattle.netlist.specs.Circuits.{CircuitData}
use Rattle.netlist.specs.Edits.{number_fault, strength_fault, switch_numbered}
use Rattle.script_lang.specs.declared.command.Edit.{Edit}
use Rattle.script_lang.specs.declared.command.Edit.TheVariants as asked
use Rattle.session_meaning.specs.declared.switches.SwitchEdit.{SwitchEdit}
use Rattle.session_meaning.specs.declared.switches.SwitchEdit.TheVariants.{Removal, Strength, Kind}

-- what stands at the place of the transistor with this number after the edit
abbrev pub place_after : CircuitData → ℕ → SwitchEdit → Option Switch
place_after c number Removal = None
place_after c number (Strength strength) =
    let change : Switch → Switch = λ switch. record switch { level = level_of_strength strength } in
    option_map change (switch_numbered c number)
place_after c number (Kind kind) =
    let change : Switch → Switch = λ switch. record switch { kind = kind } in
    option_map change (switch_numbered c number)

-- when it can't be done
abbrev pub edit_fault : CircuitData → ℕ → SwitchEdit → Option EditFault
edit_fault c number Removal = number_fault c number
edit_fault c number (Strength strength) = strength_fault c number strength
edit_fault c number (Kind kind) = number_fault c number

-- the edit that a script asks for
abbrev pub edit_of : ℕ → SwitchEdit → Edit
edit_of number Removal = asked.Del number
edit_of number (Strength strength) = asked.Strength number strength
edit_of number (Kind kind) = asked.Kind number kind
