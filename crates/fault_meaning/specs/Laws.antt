-- Laws of the answer to a list of faults.
use Rattle.std.specs.Prelude.{◌≡◌, ◌≢◌, ℕ, List, All, slice_get, Option, Some, Ok}
use Rattle.std.specs.List.{AllPairs}
use Rattle.ternary.specs.declared.tern.Tern.{Tern}
use Rattle.line_words.specs.Files.{lines_in}
use Rattle.netlist.specs.Circuits.{CircuitData}
use Rattle.group_text.specs.Texts.{GroupTextData}
use Rattle.script_lang.specs.declared.command.Command.TheVariants as family
use Rattle.script_lang.specs.declared.command.Setup.TheVariants.{Keep}
use Rattle.script_lang.specs.Commands.{reading_of}
use Rattle.run_ends.specs.Answers.{Answer}
use Rattle.fault_sim.specs.declared.fault.Fault.{Fault}
use Rattle.fault_sim.specs.Traces.{Trace}
use Rattle.fault_meaning.specs.Traces.{IsTrace}
use Rattle.fault_meaning.specs.Judging.{AreJudgedFaults}

-- the line asks for no bound on what is kept
abbrev pub AsksNoBound : ℕ × List ℕ → Type 0
AsksNoBound line = (number : ℕ) → reading_of line.1 ≢ Ok (Some (family.Setup (Keep number)))

-- no line of the script does
abbrev pub NeverKeeps : List ℕ → Type 0
NeverKeeps script = All AsksNoBound (lines_in script)

-- over the good run and the runs under all faults of a list no text of a group is analysed twice, if no line of the script asks for a bound
-- on what is kept
abbrev pub TextsAreAnalysedOnce : Type 0
TextsAreAnalysedOnce =
    (script list : List ℕ) (circuit : CircuitData) (answer : Answer) → NeverKeeps script → AreJudgedFaults script list circuit answer →
    AllPairs (λ one other. one ≢ other) answer.texts

-- each entry of each row of a trace has a name, so a line that tells of a difference names a node
abbrev pub EntriesAreNamed : Type 0
EntriesAreNamed =
    (circuit : CircuitData) (script : List ℕ) (kept : List GroupTextData) (fault : Option Fault) (trace : Trace) (texts after : List GroupTextData) →
    IsTrace circuit script kept fault trace texts after → (row entry : ℕ) (values : List Tern) (value : Tern) →
    slice_get trace.rows row ≡ Some values → slice_get values entry ≡ Some value → (name : List ℕ) × (slice_get trace.names entry ≡ Some name)

-- a list of faults has one answer in a circuit, over the runs of a script
abbrev pub JudgementsAreUnique : Type 0
JudgementsAreUnique =
    (script list : List ℕ) (circuit : CircuitData) (answer other : Answer) → AreJudgedFaults script list circuit answer →
    AreJudgedFaults script list circuit other → answer ≡ other
