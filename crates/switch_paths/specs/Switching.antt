-- What the switch of a transistor does under a state of the nodes.
-- After Bryant, "A Switch-Level Model and Simulator for MOS Digital Systems", 1984.
use Rattle.std.specs.Prelude.{ℕ, Bool, true, false, List, slice_index_or}
use Rattle.ternary.specs.declared.tern.Tern.{Tern}
use Rattle.ternary.specs.declared.tern.Tern.TheVariants.{Zero, One, Unk}
use Rattle.switch_paths.specs.declared.switching.SwitchKind.{SwitchKind}
use Rattle.switch_paths.specs.declared.switching.SwitchKind.TheVariants.{NChan, PChan, Always}
use Rattle.switch_paths.specs.declared.switching.SwitchState.{SwitchState}
use Rattle.switch_paths.specs.declared.switching.SwitchState.TheVariants.{Open, Closed, Unknown}
use Rattle.switch_paths.specs.declared.switching.Switch.{Switch}

-- the table: an n-channel switch is closed by 1, a p-channel one by 0, a depletion one always; X leaves the
-- first two unknown
abbrev pub state_by : SwitchKind → Tern → SwitchState
state_by NChan Zero = Open
state_by NChan One = Closed
state_by NChan Unk = Unknown
state_by PChan Zero = Closed
state_by PChan One = Open
state_by PChan Unk = Unknown
state_by Always Zero = Closed
state_by Always One = Closed
state_by Always Unk = Closed

-- the switch conducts for certain
abbrev pub is_closed : SwitchState → Bool
is_closed Open = false
is_closed Closed = true
is_closed Unknown = false

-- the switch may conduct: it isn't open
abbrev pub is_live : SwitchState → Bool
is_live Open = false
is_live Closed = true
is_live Unknown = true

-- the state of a node; no rule asks for one past the last node
abbrev pub state_at : List Tern → ℕ → Tern
state_at state node = slice_index_or state node Zero

-- the state of a switch, by its kind and the state of its gate
abbrev pub switch_state_at : List Tern → Switch → SwitchState
switch_state_at state switch = state_by switch.kind (state_at state switch.gate)
