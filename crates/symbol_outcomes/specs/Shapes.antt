-- Lines that are told together: they differ in states alone, and waveform lines also in how many steps were taken and in the mark.
use Rattle.std.specs.Prelude.{◌≡◌, List, [], ◌∷◌, length}
use Rattle.printed_lines.specs.declared.looks.SwitchTold.{SwitchTold}
use Rattle.told_lines.specs.Lines.{Line, Wave, Shown, Looked, AtEnd, AtGate}

-- the same transistor, whatever its switch does
abbrev pub IsSameSwitch : SwitchTold → SwitchTold → Type 0
IsSameSwitch one other = (other.number ≡ one.number) × (other.kind ≡ one.kind) × (other.strength ≡ one.strength)

-- a line can be told together with another: both are of one sort, of the same names, and of as many states. No line of an expectation can, of a
-- report or of a refusal
abbrev pub IsToldWith : Line → Line → Type 0
IsToldWith (Wave n k mark states) (Wave m l other more) = (m ≡ n) × (length more ≡ length states)
IsToldWith (Shown name states) (Shown other more) = (other ≡ name) × (length more ≡ length states)
IsToldWith (Looked name state sort) (Looked other next kind) = (other ≡ name) × (kind ≡ sort)
IsToldWith (AtEnd switch gate gate_state end end_state) (AtEnd other source source_state drain drain_state) =
    IsSameSwitch switch other × (source ≡ gate) × (drain ≡ end)
IsToldWith (AtGate switch gate gate_state end end_state) (AtGate other source source_state drain drain_state) =
    IsSameSwitch switch other × (source ≡ gate) × (drain ≡ end)
IsToldWith one other = ⊥

-- so can as many lines, one by one
abbrev pub AreToldWith : List Line → List Line → Type 0
AreToldWith [] [] = Unit {0}
AreToldWith (line ∷ lines) (other ∷ others) = IsToldWith line other × AreToldWith lines others
AreToldWith lines others = ⊥
