-- The effect of each command that isn't refused: the new data, and the lines that are told.
-- A unit step gives every node its steady state by unblocked paths, all at once; a phase settles by such steps.
-- After Bryant, "A Switch-Level Model and Simulator for MOS Digital Systems", 1984; the commands are this project's own.
use Rattle.std.specs.Prelude.{◌≡◌, ℕ, Bool, true, false, ◌||◌, ◌+◌, ◌*◌, ◌-◌, ◌%◌, ◌^◌, min, List, [], ◌∷◌, ◌++◌, length, replicate, map, filter_map, slice_set, Option, Some, None, Result, Ok, Err, if◌then◌else◌}
use Rattle.std.specs.List.{flat_map, list_all, list_any, range_with_len}
use Rattle.ternary.specs.declared.tern.Tern.{Tern}
use Rattle.ternary.specs.declared.tern.Tern.TheVariants.{Unk}
use Rattle.switch_paths.specs.Switching.{state_at}
use Rattle.switch_paths.specs.Step.{IsStep}
use Rattle.settling.specs.Settling.{Settles}
use Rattle.netlist.specs.Circuits.{CircuitData}
use Rattle.netlist.specs.Edits.{node_named, with_input, with_store, with_transistor, without_switch, with_strength, with_kind, with_wires}
use Rattle.switch_paths.specs.Graphs.{nodes}
use Rattle.group_text.specs.FirstTexts.{first_texts}
use Rattle.group_text.specs.Texts.{GroupTextData}
use Rattle.circuit_texts.specs.Building.{HasTexts}
use Rattle.vector_values.specs.Values.{Letter}
use Rattle.script_lang.specs.declared.value.Value.{Value}
use Rattle.node_words.specs.Vectors.{with_vector}
use Rattle.node_values.specs.declared.fault.GivenFault.{GivenFault}
use Rattle.node_values.specs.Givings.{letters_given, states_given}
use Rattle.script_lang.specs.declared.command.Command.{Command}
use Rattle.script_lang.specs.declared.command.Command.TheVariants as family
use Rattle.script_lang.specs.declared.command.Edit.{Edit}
use Rattle.script_lang.specs.declared.command.Edit.TheVariants.{Input, Store, Add, Del, Strength, Kind, Wire}
use Rattle.script_lang.specs.declared.command.Give.{Give}
use Rattle.script_lang.specs.declared.command.Give.TheVariants.{Set, Charge, Back}
use Rattle.script_lang.specs.declared.command.Setup.{Setup}
use Rattle.script_lang.specs.declared.command.Setup.TheVariants.{Watch, Limit, Clock, Keep, Widen, Save, Vector}
use Rattle.script_lang.specs.declared.command.Run.{Run}
use Rattle.script_lang.specs.declared.command.Run.TheVariants.{Step, Phase, Cycle, Report}
use Rattle.script_lang.specs.declared.command.Tell.{Tell}
use Rattle.script_lang.specs.declared.command.Tell.TheVariants.{Expect, Show, Look}
use Rattle.node_looks.specs.Looks.{looked_lines}
use Rattle.session_meaning.specs.Saves.{state_back, with_save}
use Rattle.session_meaning.specs.Sessions.{SessionData, ClockData, places_of}
use Rattle.session_meaning.specs.Refusals.{all_named, nodes_named, strength_for}
use Rattle.told_lines.specs.Lines.{Line, Wave, Unmet, Shown, Reported, is_unmet}
pub use Rattle.told_lines.specs.Sums.{is_state}

-- the circuit with these nodes as input nodes
abbrev pub with_inputs : CircuitData → List ℕ → CircuitData
with_inputs c [] = c
with_inputs c (node ∷ nodes) = with_inputs (with_input c node) nodes

-- the letters that an assignment gives its nodes; if it gives none it is refused
abbrev pub letters_in : Result (List (ℕ × Letter)) GivenFault → List (ℕ × Letter)
letters_in (Ok pairs) = pairs
letters_in (Err fault) = []

-- the states that assignments give nodes, from left to right
abbrev pub states_by : CircuitData → List (List ℕ × List ℕ) → List (List ℕ × Value) → List (ℕ × Tern)
states_by c vectors list = flat_map (λ item. states_given (letters_in (letters_given c vectors item))) list

-- the state with these nodes in their states, from left to right
abbrev pub assigned : List Tern → List (ℕ × Tern) → List Tern
assigned state [] = state
assigned state (pair ∷ pairs) = assigned (slice_set state pair.0 pair.1) pairs

-- the clock of a name and its letters
abbrev pub clock_of : CircuitData → (List ℕ × List Tern) → ClockData
clock_of c item = record { node = node_named c item.0; states = item.1 }

-- a count that has reached the last value of its type stays there
abbrev pub one_more : ℕ → ℕ
one_more count = min (count + 1) (2 ^ 64 - 1)

-- the data after unit steps to this state, with one more waveform line
abbrev pub moved_to : SessionData → List Tern → SessionData
moved_to session next = record session { state = next; count = one_more session.count }

-- the waveform line by the data after a step or a phase: the number of steps, and the mark
abbrev pub wave_by : SessionData → ℕ → Bool → Line
wave_by session k mark = Wave session.count k mark (map (state_at session.state) session.watched)

-- one unit step: k is 1, and there is no mark
pub record IsUnitStep (old new : SessionData) (lines : List Line) : Type 0 where
  pub next : List Tern
  pub step : IsStep old.circuit.graph old.state next
  pub moved : new ≡ moved_to old next
  pub wrote : lines ≡ wave_by new 1 false ∷ []

-- one phase: the state settles under the limit; k is the number of steps that changed something, and the mark says whether a joining
-- step did
pub record IsPhase (old new : SessionData) (lines : List Line) : Type 0 where
  pub next : List Tern
  pub steps : ℕ
  pub joined : Bool
  pub settles : Settles old.circuit.graph old.state old.limit next steps joined
  pub moved : new ≡ moved_to old next
  pub wrote : lines ≡ wave_by new steps joined ∷ []

-- the states with each clock's node in its state at a place, from left to right
abbrev pub states_with : List ClockData → ℕ → List Tern → List Tern
states_with [] place state = state
states_with (clock ∷ clocks) place state =
    states_with clocks place (slice_set state clock.node (state_at clock.states place))

-- the data with each clock's node in its state at a place
abbrev pub with_beat : SessionData → ℕ → SessionData
with_beat session place = record session { state = states_with session.clocks place session.state }

-- for each of these places of the clocks in order: their nodes are set, and a phase is done
abbrev pub AreBeats : SessionData → List ℕ → SessionData → List Line → Type 0
AreBeats old [] new lines = (new ≡ old) × (lines ≡ [])
AreBeats old (place ∷ places) new lines =
    (mid : SessionData) × (front : List Line) × (back : List Line) ×
    IsPhase (with_beat old place) mid front × AreBeats mid places new back × (lines ≡ front ++ back)

-- the places of so many cycles of clocks with so many places each: all of them in order, again and again
abbrev pub places_in : ℕ → ℕ → List ℕ
places_in count times = map (λ i. i % count) (range_with_len 0 (times * count))

-- the letter is met by a state: that of any state by each
abbrev pub is_met : Letter → Tern → Bool
is_met None got = true
is_met (Some want) got = is_state got want

-- the line of a name whose nodes have these letters, if the state of one of them doesn't meet its own
abbrev pub unmet_by : SessionData → List ℕ → List (ℕ × Letter) → Option Line
unmet_by session name pairs =
    if list_all (λ pair. is_met pair.1 (state_at session.state pair.0)) pairs then None
    else Some (Unmet name (map (λ pair. pair.1) pairs) (map (λ pair. state_at session.state pair.0) pairs) session.count)

-- the line of an assignment that isn't met
abbrev pub unmet_line : SessionData → List ℕ × Value → Option Line
unmet_line session item = unmet_by session item.0 (letters_in (letters_given session.circuit session.vectors item))

-- the lines of the assignments that aren't met, from left to right
abbrev pub unmet_lines : SessionData → List (List ℕ × Value) → List Line
unmet_lines session list = filter_map (unmet_line session) list

-- the line of a name that is shown: the states of its nodes
abbrev pub shown_line : SessionData → List ℕ → Line
shown_line session name = Shown name (map (state_at session.state) (nodes_named session.circuit session.vectors name))

-- the data with this circuit in place of theirs: each node that is new is X
abbrev pub with_circuit : SessionData → CircuitData → SessionData
with_circuit old c = record old { circuit = c; state = old.state ++ replicate (nodes c.graph - length old.state) Unk }

-- a report: how many groups there are, how many distinct texts those have that have one, and how many texts were analysed since the last report
pub record IsReported (old new : SessionData) (lines : List Line) : Type 0 where
  pub texts : List GroupTextData
  pub has : HasTexts old.large old.circuit.graph texts
  pub moved : new ≡ record old { fresh = 0 }
  pub wrote : lines ≡ Reported (length has.groups) (length (first_texts texts)) old.fresh ∷ []

-- ---- by families

-- the circuit after an edit
abbrev pub circuit_after : CircuitData → List (List ℕ × List ℕ) → Edit → CircuitData
circuit_after c vectors (Input names) = with_inputs c (all_named c vectors names)
circuit_after c vectors (Store name size) = with_store c (node_named c name) size
circuit_after c vectors (Add kind gate source drain strength) = with_transistor c kind (strength_for kind strength) gate source drain
circuit_after c vectors (Del number) = without_switch c number
circuit_after c vectors (Strength number strength) = with_strength c number strength
circuit_after c vectors (Kind number kind) = with_kind c number kind
circuit_after c vectors (Wire number gate source drain) = with_wires c number gate source drain

-- the state after a command that gives nodes states
abbrev pub state_given : SessionData → Give → List Tern
state_given old (Set list) = assigned old.state (states_by old.circuit old.vectors list)
state_given old (Charge list) = assigned old.state (states_by old.circuit old.vectors list)
state_given old (Back name) = state_back old.saves name old.state

-- the data after a command that sets what others go by
abbrev pub setup_after : SessionData → Setup → SessionData
setup_after old (Watch names) = record old { watched = old.watched ++ all_named old.circuit old.vectors names }
setup_after old (Limit number) = record old { limit = number }
setup_after old (Clock list) = record old { clocks = map (clock_of old.circuit) list }
setup_after old (Keep number) = record old { bound = Some number }
setup_after old (Widen number) = record old { large = number }
setup_after old (Save name) = record old { saves = with_save old.saves name old.state }
setup_after old (Vector name words) = record old { vectors = with_vector old.circuit old.vectors name words }

-- the effect of a command that has the circuit built
abbrev pub RunEffect : SessionData → Run → SessionData → List Line → Type 0
RunEffect old Step new lines = IsUnitStep old new lines
RunEffect old Phase new lines = IsPhase old new lines
RunEffect old (Cycle times) new lines = AreBeats old (places_in (places_of old.clocks) times) new lines
RunEffect old Report new lines = IsReported old new lines

-- the lines of a command that tells
abbrev pub told_by : SessionData → Tell → List Line
told_by session (Expect list) = unmet_lines session list
told_by session (Show names) = map (shown_line session) names
told_by session (Look names) = flat_map (looked_lines session.circuit session.state) names

-- the data after these lines were told: whether one of them was of an expectation that isn't met is remembered
abbrev pub with_told : SessionData → List Line → SessionData
with_told old lines = record old { missed = old.missed || list_any is_unmet lines }

-- the effect of a command: from the data before it, the data after it and its lines
abbrev pub Effect : SessionData → Command → SessionData → List Line → Type 0
Effect old (family.Edit edit) new lines = (new ≡ with_circuit old (circuit_after old.circuit old.vectors edit)) × (lines ≡ [])
Effect old (family.Give give) new lines = (new ≡ record old { state = state_given old give }) × (lines ≡ [])
Effect old (family.Setup setup) new lines = (new ≡ setup_after old setup) × (lines ≡ [])
Effect old (family.Run run) new lines = RunEffect old run new lines
Effect old (family.Tell tell) new lines = (new ≡ with_told old lines) × (lines ≡ told_by old tell)
