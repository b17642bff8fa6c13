-- Where the lines of a script end when they are obeyed: with what was heard and which texts of groups were analysed for them; and the line of the
-- refusal that ends them.
use Rattle.std.specs.Prelude.{◌≡◌, ℕ, ◌⊎◌, List, [], ◌∷◌, ◌++◌, Option, None, Some, Result, Ok, Err}
use Rattle.netlist.specs.Circuits.{CircuitData}
use Rattle.group_text.specs.Texts.{GroupTextData}
use Rattle.circuit_texts.specs.declared.texts.BuildFault.{BuildFault}
use Rattle.circuit_texts.specs.Sizes.{TellsRefused}
use Rattle.told_lines.specs.Lines.{Told}
use Rattle.told_lines.specs.Hearing.{hear_all, HearsFront, of_column}
use Rattle.session_meaning.specs.Sessions.{SessionData}
use Rattle.script_meaning.specs.declared.halt.Halt.{Halt}
use Rattle.script_meaning.specs.declared.halt.Halt.TheVariants.{End, Refused, TooLarge}
use Rattle.run_ends.specs.declared.stop.End as end
use Rattle.run_ends.specs.declared.stop.End.TheVariants as ended
use Rattle.run_ends.specs.declared.stop.Stop.{Stop}
use Rattle.run_ends.specs.Causes.{Cause, plain_cause, size_cause}
use Rattle.script_meaning.specs.Runs.{Reading, RefusedLine, Outcome, Runs, refusal_line}

-- the lines of a script were obeyed, to these data and to this refused line, if one ended them: what they tell was heard, and their
-- texts were analysed
pub record HasObeyed {H : Type 0} (hear : H → Told → H) (reading : Reading) (cut : Option ℕ) (start : SessionData) (lines : List (ℕ × List ℕ))
    (new : SessionData) (before after : H) (asked told : List GroupTextData) (last : Option RefusedLine) : Type 0 where
  pub outcome : Outcome
  pub runs : Runs reading cut start lines outcome
  pub reached : outcome.end ≡ new
  pub stopped : outcome.refused ≡ last
  pub heard : after ≡ hear_all hear before (of_column 0 outcome.lines)
  pub analysed : told ≡ asked ++ outcome.texts

-- they were obeyed to the line with this number, which is refused since a group of the circuit is too large, the first of which is told
pub record HasOutgrown {H : Type 0} (hear : H → Told → H) (reading : Reading) (cut : Option ℕ) (start : SessionData) (lines : List (ℕ × List ℕ))
    (new : SessionData) (before after : H) (asked told : List GroupTextData) (number : ℕ) (fault : BuildFault) : Type 0 where
  pub first : TellsRefused new.large new.circuit.graph fault
  pub halted : (other : BuildFault) (cause : Cause) → TellsRefused new.large new.circuit.graph other → size_cause new.circuit other ≡ Some cause →
      HasObeyed hear reading cut start lines new before after asked told (Some (record { line = number; cause = cause }))

-- how the lines of a script end: all were obeyed, or the line with a number is refused under a code or for the size of a group
abbrev pub HaltsAt : {H : Type 0} → (H → Told → H) → Reading → Option ℕ → SessionData → List (ℕ × List ℕ) → SessionData → H → H → List GroupTextData →
    List GroupTextData → Halt → Type 0
HaltsAt hear reading cut start lines new before after asked told End = HasObeyed hear reading cut start lines new before after asked told None
HaltsAt hear reading cut start lines new before after asked told (Refused number code) =
    HasObeyed hear reading cut start lines new before after asked told (Some (record { line = number; cause = plain_cause code }))
HaltsAt hear reading cut start lines new before after asked told (TooLarge number fault) =
    HasOutgrown hear reading cut start lines new before after asked told number fault

-- of what some outcome's lines tell a front was heard, and of the next line a part, or nothing
pub record BreaksOff {H : Type 0} (hear : H → Told → H) (part : H → Told → H → Type 0) (reading : Reading) (cut : Option ℕ) (start : SessionData)
    (lines : List (ℕ × List ℕ)) (before after : H) : Type 0 where
  pub outcome : Outcome
  pub runs : Runs reading cut start lines outcome
  pub heard : HearsFront hear part before after (of_column 0 outcome.lines)

-- what obeying the lines of a script comes to; where it stopped, nothing was heard, or a prefix of what its lines tell
abbrev pub TellsHalt : {H : Type 0} → (H → Told → H) → (H → Told → H → Type 0) → Reading → Option ℕ → SessionData → List (ℕ × List ℕ) → SessionData → H → H →
    List GroupTextData → List GroupTextData → Result Halt Stop → Type 0
TellsHalt hear part reading cut start lines new before after asked told (Ok halt) = HaltsAt hear reading cut start lines new before after asked told halt
TellsHalt hear part reading cut start lines new before after asked told (Err stop) =
    (after ≡ before) ⊎ BreaksOff hear part reading cut start lines before after

-- the lines ended at one that is refused: if a group of the circuit is too large under some bound, the first such group is told
abbrev pub IsCutShort : CircuitData → Halt → Type 0
IsCutShort circuit End = ⊥
IsCutShort circuit (Refused number code) = Unit {0}
IsCutShort circuit (TooLarge number size) = (large : ℕ) × TellsRefused large circuit.graph size

-- the line of a refusal was heard, which ends the run so; where it stopped, nothing was heard, or a part of it
abbrev pub TellsRefusal : {H : Type 0} → (H → Told → H) → (H → Told → H → Type 0) → H → H → RefusedLine → Result end.End Stop → Type 0
TellsRefusal hear part before after stopped (Ok ending) =
    (ending ≡ ended.ScriptRefused) × (after ≡ hear_all hear before (of_column 0 (refusal_line stopped ∷ [])))
TellsRefusal hear part before after stopped (Err stop) = HearsFront hear part before after (of_column 0 (refusal_line stopped ∷ []))

-- so it is with the refusal at which lines ended in a circuit
abbrev pub TellsCutShort : {H : Type 0} → (H → Told → H) → (H → Told → H → Type 0) → CircuitData → Halt → H → H → Result end.End Stop → Type 0
TellsCutShort hear part circuit End before after result = ⊥
TellsCutShort hear part circuit (Refused number code) before after result =
    TellsRefusal hear part before after (record { line = number; cause = plain_cause code }) result
TellsCutShort hear part circuit (TooLarge number size) before after result =
    (cause : Cause) × (size_cause circuit size ≡ Some cause) × TellsRefusal hear part before after (record { line = number; cause = cause }) result
