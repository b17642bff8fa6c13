-- The states of a node, and the two rails of a state.
-- After Bryant, "Boolean Analysis of MOS Circuits", 1987.
use Rattle.std.specs.Prelude.{ℕ, Bool, true, false, ◌||◌, ◌==◌, if◌then◌else◌, Option, Some, None}
use Rattle.ternary.specs.declared.tern.Tern.{Tern}
use Rattle.ternary.specs.declared.tern.Tern.TheVariants.{Zero, One, Unk}

-- the rail "may be 1": set at 1 and at X
abbrev pub may_one : Tern → Bool
may_one Zero = false
may_one One = true
may_one Unk = true

-- the rail "may be 0": set at 0 and at X
abbrev pub may_zero : Tern → Bool
may_zero Zero = true
may_zero One = false
may_zero Unk = true

-- the state that has these rails, "may be 1" first; no state has neither
abbrev pub of_rails : Bool → Bool → Option Tern
of_rails false false = None
of_rails false true = Some Zero
of_rails true false = Some One
of_rails true true = Some Unk

-- the join of two states: equal states stay, different ones give X
abbrev pub join : Tern → Tern → Tern
join Zero Zero = Zero
join Zero One = Unk
join Zero Unk = Unk
join One Zero = Unk
join One One = One
join One Unk = Unk
join Unk Zero = Unk
join Unk One = Unk
join Unk Unk = Unk

-- the letter of a state: `0`, `1` or `X`
abbrev pub letter : Tern → ℕ
letter Zero = 48
letter One = 49
letter Unk = 88

-- the state that a letter stands for: `0`, `1`, and `X` or `x`
abbrev pub of_letter : ℕ → Option Tern
of_letter byte =
    if byte == 48 then Some Zero else
    (if byte == 49 then Some One else
    (if (byte == 88) || (byte == 120) then Some Unk else None))
