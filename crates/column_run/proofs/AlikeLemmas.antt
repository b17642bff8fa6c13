-- Columns that are alike: they differ in their states alone. Commands keep them alike, and tell equally many lines in each.
use Rattle.std.proofs.Common.{◌≡◌, ℕ, Bool, true, false, List, [], ◌∷◌, length, refl, sym, ap, subst, ◌∙◌}
use Rattle.netlist.specs.Circuits.{CircuitData}
use Rattle.group_text.specs.Texts.{GroupTextData}
use Rattle.circuit_texts.specs.Building.{HasTexts}
use Rattle.script_lang.specs.declared.command.Command.TheVariants as family
use Rattle.script_lang.specs.declared.command.Setup.{Setup}
use Rattle.script_lang.specs.declared.command.Setup.TheVariants.{Watch, Save}
use Rattle.script_lang.specs.declared.command.Run.{Run}
use Rattle.script_lang.specs.declared.command.Run.TheVariants.{Step, Phase, Cycle, Report}
use Rattle.column_script.specs.declared.command.ColumnCommand.{ColumnCommand}
use Rattle.column_script.specs.declared.command.ColumnCommand.TheVariants.{Values, Shared}
use Rattle.column_script.specs.Commands.{in_column, IsSharedSetup}
use Rattle.column_script.specs.Forms.{IsFormed}
use Rattle.session_meaning.specs.Sessions.{SessionData, places_of}
use Rattle.session_meaning.specs.Refusals.{refusal_of}
use Rattle.session_meaning.specs.Preparing.{with_present, BuildsIf}
use Rattle.told_lines.specs.Lines.{Line}
use Rattle.session_meaning.specs.Effects.{Effect, RunEffect, AreBeats, circuit_after, setup_after, one_more, places_in}
use Rattle.session_meaning.proofs.UniqueBuilds.{HasTexts-unique}
use Rattle.session_meaning.proofs.LetterLemmas.{refused_alike}
use Rattle.session_meaning.proofs.BeatRowLemmas.{length-beats}

-- all but the states
abbrev pub less_states : SessionData → SessionData
less_states session = record session { state = [] }

-- two sessions differ in their states alone
pub record AreAlike (one other : SessionData) : Type 0 where
  pub same : less_states other ≡ less_states one

-- so the other is the one with other states
pub beside : (one other : SessionData) → AreAlike one other → other ≡ record one { state = other.state }
beside one other alike = ap (λ (s : SessionData). record s { state = other.state }) alike.same

-- what is done to all but the states keeps sessions alike
kept_alike : (F : SessionData → SessionData) (one other after later : SessionData) → AreAlike one other → less_states after ≡ F (less_states one) →
    less_states later ≡ F (less_states other) → AreAlike after later
kept_alike F one other after later alike first second = record { same = second ∙ ap F alike.same ∙ sym first }

-- one more waveform line
abbrev counted : SessionData → SessionData
counted s = record s { count = one_more s.count }

-- and so many more
abbrev counted_on : List ℕ → SessionData → SessionData
counted_on [] s = s
counted_on (place ∷ places) s = counted_on places (counted s)

-- phases at places count their lines, and keep all else but the states
beats_count : (places : List ℕ) (session new : SessionData) (lines : List Line) → AreBeats session places new lines → less_states new ≡ counted_on places (less_states session)
beats_count [] session new lines (same, none) = ap less_states same
beats_count (place ∷ places) session new lines (mid, front, back, phase, beats, whole) =
    beats_count places mid new back beats ∙ ap (λ (s : SessionData). counted_on places (less_states s)) phase.moved

-- what is set for later commands in columns is set beside the states
set_less : (session : SessionData) (setup : Setup) → IsSharedSetup setup → less_states (setup_after session setup) ≡ setup_after (less_states session) setup
set_less session (Watch names) shared = refl
set_less session (Save name) shared = absurd shared
set_less session other shared = refl

-- steps and reports keep sessions alike
alike-run : (run : Run) (one two after later : SessionData) (lines more : List Line) → AreAlike one two → RunEffect one run after lines →
    RunEffect two run later more → AreAlike after later
alike-run Step one two after later lines more alike first second =
    kept_alike counted one two after later alike (ap less_states first.moved) (ap less_states second.moved)
alike-run Phase one two after later lines more alike first second =
    kept_alike counted one two after later alike (ap less_states first.moved) (ap less_states second.moved)
alike-run (Cycle times) one two after later lines more alike first second =
    kept_alike (λ s. counted_on (places_in (places_of s.clocks) times) s) one two after later alike
    (beats_count (places_in (places_of one.clocks) times) one after lines first) (beats_count (places_in (places_of two.clocks) times) two later more second)
alike-run Report one two after later lines more alike first second =
    kept_alike (λ s. record s { fresh = 0 }) one two after later alike (ap less_states first.moved) (ap less_states second.moved)

-- and so do all effects
pub alike-effect : (columns : ℕ) (command : ColumnCommand) → IsFormed columns command → (column other : ℕ) (one two after later : SessionData) (lines more : List Line) →
    AreAlike one two → Effect one (in_column column command) after lines → Effect two (in_column other command) later more → AreAlike after later
alike-effect columns (Values kind list) formed column other one two after later lines more alike first second =
    kept_alike (λ s. s) one two after later alike (ap less_states first.0) (ap less_states second.0)
alike-effect columns (Shared (family.Edit edit)) formed column other one two after later lines more alike first second =
    kept_alike (λ s. record s { circuit = circuit_after s.circuit s.vectors edit }) one two after later alike (ap less_states first.0)
    (ap less_states second.0)
alike-effect columns (Shared (family.Give give)) formed column other one two after later lines more alike first second = absurd (formed.1)
alike-effect columns (Shared (family.Setup setup)) formed column other one two after later lines more alike first second =
    kept_alike (λ s. setup_after s setup) one two after later alike (ap less_states first.0 ∙ set_less one setup formed.1)
    (ap less_states second.0 ∙ set_less two setup formed.1)
alike-effect columns (Shared (family.Run run)) formed column other one two after later lines more alike first second =
    alike-run run one two after later lines more alike first second
alike-effect columns (Shared (family.Tell tell)) formed column other one two after later lines more alike first second = absurd (formed.1)

-- so do builds, since the texts of one circuit are present
pub alike-built : (building : Bool) (one two mid then : SessionData) (texts others : List GroupTextData) → AreAlike one two →
    BuildsIf building one mid texts → BuildsIf building two then others → AreAlike mid then
alike-built true one two mid then texts others alike first second =
    let circuit : two.circuit ≡ one.circuit = ap (λ (s : SessionData). s.circuit) (beside one two alike) in
    let bound : two.large ≡ one.large = ap (λ (s : SessionData). s.large) (beside one two alike) in
    let present : second.present ≡ first.present = HasTexts-unique one.large one.circuit.graph second.present first.present
    (subst (λ (large : ℕ). HasTexts large one.circuit.graph second.present) bound
    (subst (λ (c : CircuitData). HasTexts two.large c.graph second.present) circuit second.has)) first.has in
    kept_alike (λ s. with_present s first.present) one two mid then alike (ap less_states first.used)
    (ap less_states (second.used ∙ ap (with_present two) present))
alike-built false one two mid then texts others alike first second =
    kept_alike (λ s. s) one two mid then alike (ap less_states (first.0)) (ap less_states (second.0))

-- sessions that are alike refuse what columns are given alike
pub alike-refused : (one two : SessionData) (command : ColumnCommand) (column other : ℕ) → AreAlike one two →
    refusal_of two (in_column other command) ≡ refusal_of one (in_column column command)
alike-refused one two command column other alike =
    ap (λ (s : SessionData). refusal_of s (in_column other command)) (beside one two alike)
    ∙ refused_alike one two.state command other column

-- how many lines a command tells, by the number of places of the clocks
abbrev run_lines : Run → ℕ → ℕ
run_lines Step places = 1
run_lines Phase places = 1
run_lines (Cycle times) places = length (places_in places times)
run_lines Report places = 1

abbrev pub lines_told : ColumnCommand → ℕ → ℕ
lines_told (Shared (family.Run run)) places = run_lines run places
lines_told command places = 0

length-run : (run : Run) (old new : SessionData) (lines : List Line) → RunEffect old run new lines → length lines ≡ run_lines run (places_of old.clocks)
length-run Step old new lines effect = ap length effect.wrote
length-run Phase old new lines effect = ap length effect.wrote
length-run (Cycle times) old new lines effect = length-beats (places_in (places_of old.clocks) times) old new lines effect
length-run Report old new lines effect = ap length effect.wrote

pub length-effect : (columns : ℕ) (command : ColumnCommand) → IsFormed columns command → (column : ℕ) (old new : SessionData) (lines : List Line) →
    Effect old (in_column column command) new lines → length lines ≡ lines_told command (places_of old.clocks)
length-effect columns (Values kind list) formed column old new lines effect = ap length effect.1
length-effect columns (Shared (family.Edit edit)) formed column old new lines effect = ap length effect.1
length-effect columns (Shared (family.Give give)) formed column old new lines effect = ap length effect.1
length-effect columns (Shared (family.Setup setup)) formed column old new lines effect = ap length effect.1
length-effect columns (Shared (family.Run run)) formed column old new lines effect = length-run run old new lines effect
length-effect columns (Shared (family.Tell tell)) formed column old new lines effect = absurd (formed.1)
