-- Each command is refused or has an effect, and an effect keeps the data ready: the circuit well formed, and one state for each node.
-- The plan: edits give nodes other than the rails a level, which keeps the circuit well formed; states are set and keep their number; steps,
-- phases and cycles have an outcome because every state of a graph has a step and settles.
use Rattle.std.proofs.Common.{◌≡◌, ℕ, ◌-◌, ◌≤◌, ◌++◌, List, [], ◌∷◌, length, All, nat_lt, Option, None, Some, Bool, true, false, refl, ◌∙◌, inl, inr, arith}
use Rattle.std.specs.Prelude.{if◌then◌else◌, ◌⊎◌}
use Rattle.std.proofs.lemmas.List.{length-set, length-replicate}
use Rattle.std.proofs.lemmas.List.Elements.{All-nil, All-head, All-tail}
use Rattle.std.proofs.lemmas.Bool.Decides.{nat_tests}
use Rattle.ternary.specs.declared.tern.Tern.{Tern}
use Rattle.ternary.specs.declared.tern.Tern.TheVariants.{Unk}
use Rattle.strength_order.specs.declared.TheConstants.{INPUT_LEVEL}
use Rattle.strength_order.specs.Levels.{IsLevel, level_of_size}
use Rattle.switch_paths.specs.Graphs.{nodes}
use Rattle.switch_paths.proofs.ExistingSteps.{exists}
use Rattle.settling.proofs.SettlingExists.{every_state}
use Rattle.switch_paths.specs.declared.TheConstants.{RAILS}
use Rattle.netlist.specs.Names.{node_of}
use Rattle.netlist.specs.Circuits.{CircuitData, IsCircuit}
use Rattle.netlist.proofs.KeptLemmas.{IsLevel-input, IsLevel-size, IsCircuit-with_level}
use Rattle.netlist.proofs.KeptLemmas.{IsCircuit-with_transistor}
use Rattle.netlist.proofs.EditLemmas.{nodes-with_transistor, nodes-with_wires, IsCircuit-without_switch, IsCircuit-with_strength, IsCircuit-with_kind, IsCircuit-with_wires}
use Rattle.netlist.specs.Edits.{with_input, node_named, is_size}
use Rattle.group_text.specs.Texts.{GroupTextData}
use Rattle.group_text.specs.FirstTexts.{first_texts}
use Rattle.circuit_texts.specs.declared.texts.BuildFault.{BuildFault}
use Rattle.circuit_texts.specs.Sizes.{TellsRefused}
use Rattle.circuit_texts.specs.Building.{HasTexts}
use Rattle.group_text.specs.FirstTexts.{new_texts}
use Rattle.script_lang.specs.declared.command.Command.{Command}
use Rattle.script_lang.specs.declared.command.Command.TheVariants as family
use Rattle.script_lang.specs.declared.command.Edit.{Edit}
use Rattle.script_lang.specs.declared.command.Edit.TheVariants.{Input, Store, Add, Del, Strength, Kind, Wire}
use Rattle.script_lang.specs.declared.command.Give.{Give}
use Rattle.script_lang.specs.declared.command.Give.TheVariants.{Set, Charge, Back}
use Rattle.script_lang.specs.declared.command.Setup.{Setup}
use Rattle.script_lang.specs.declared.command.Setup.TheVariants.{Clock, Save}
use Rattle.script_lang.specs.declared.command.Run.{Run}
use Rattle.script_lang.specs.declared.command.Run.TheVariants.{Step, Phase, Cycle, Report}
use Rattle.script_lang.specs.Forms.{IsFormed}
use Rattle.session_meaning.specs.declared.fault.Refusal.{Refusal}
use Rattle.session_meaning.specs.declared.fault.Refusal.TheVariants.{Rail, BadSize}
use Rattle.session_meaning.specs.Saves.{kept_under, FitsSave}
use Rattle.session_meaning.specs.Sessions.{SessionData, ClockData, IsReady, start_of, places_of}
use Rattle.session_meaning.specs.Refusals.{refusal_of, refusal_of_edit, refusal_of_give, refusal_of_setup, store_refusal, length_refusal, strength_for, all_named}
use Rattle.session_meaning.specs.Preparing.{builds, with_present, IsBuild, BuildsIf}
use Rattle.told_lines.specs.Lines.{Line, Reported}
use Rattle.session_meaning.specs.Effects.{Effect, RunEffect, IsPhase, AreBeats, circuit_after, state_given, setup_after, with_told, told_by, with_inputs, assigned, states_by, with_beat, moved_to, wave_by, places_in, with_circuit}
use Rattle.session_meaning.specs.Outcomes.{Does, Performs}
use Rattle.session_meaning.proofs.RefusalLemmas.{or_else-none}
use Rattle.session_meaning.proofs.ValueLemmas.{charge-past, inputs-past, set-past}
use Rattle.session_meaning.proofs.StateLemmas.{length-assigned, length-states_with, length-settles, set_past, clocks_past, sound-assigned, sound-states_with, sound-step, sound-settles}
use Rattle.session_meaning.proofs.OutcomeLemmas.{built_performs, still_performs}
use Rattle.session_meaning.proofs.SaveLemmas.{kept-fits, with_save-fits, fits-present, length-back, sound-back}
use Rattle.session_meaning.proofs.SizeLemmas.{texts_or_size}
use Rattle.session_meaning.proofs.EditLemmas.{IsReady-grown, nodes-with_inputs, unrefused_add, unrefused_strength}

-- ---- edits

-- a circuit stays well formed if nodes past the rails become input nodes
IsCircuit-with_inputs : (list : List ℕ) (c : CircuitData) → All (λ node. RAILS ≤ node) list → IsCircuit c → IsCircuit (with_inputs c list)
IsCircuit-with_inputs [] c past is = is
IsCircuit-with_inputs (node ∷ list) c past is =
    IsCircuit-with_inputs list (with_input c node) (All-tail (λ (other : ℕ). RAILS ≤ other) node list past)
    (IsCircuit-with_level c node INPUT_LEVEL (All-head (λ (other : ℕ). RAILS ≤ other) node list past) IsLevel-input is)

-- a node whose new size isn't refused is in use, is no rail, and gets a level
no_rail_store : (c : CircuitData) (size : ℕ) (found : Option ℕ) → store_refusal c size found ≡ None →
    (node : ℕ) × (found ≡ Some node) × (RAILS ≤ node) × IsLevel (level_of_size size)
no_rail_store c size None none = absurd (cc)
no_rail_store c size (Some node) none = by (nat_lt node RAILS) (is_size c.profile size) refl refl none
  where
    by : (rail fits : Bool) → nat_lt node RAILS ≡ rail → is_size c.profile size ≡ fits →
        (if rail then Some Rail else (if fits then None else Some BadSize)) ≡ None →
        (node' : ℕ) × (Some node ≡ Some node') × (RAILS ≤ node') × IsLevel (level_of_size size)
    by true fits is_rail is_fits none = absurd (cc)
    by false false is_rail is_fits none = absurd (cc)
    by false true is_rail is_fits none = (node, refl, grind (arith, nat_tests), IsLevel-size c.profile size is_fits)

-- a circuit stays well formed by an edit that isn't refused
IsCircuit-after : (c : CircuitData) (vectors : List (List ℕ × List ℕ)) (edit : Edit) → refusal_of_edit c vectors edit ≡ None → IsCircuit c →
    IsCircuit (circuit_after c vectors edit)
IsCircuit-after c vectors (Input names) allowed is =
    IsCircuit-with_inputs (all_named c vectors names) c (inputs-past c vectors names allowed) is
IsCircuit-after c vectors (Store name size) allowed is =
    let found = no_rail_store c size (node_of c.names name) allowed in
    IsCircuit-with_level c (node_named c name) (level_of_size size) (rw found.1 found.2) found.3 is
IsCircuit-after c vectors (Add kind gate source drain strength) allowed is =
    let used = strength_for kind strength in
    IsCircuit-with_transistor c kind used gate source drain is (unrefused_add c used gate source drain allowed)
IsCircuit-after c vectors (Del number) allowed is = IsCircuit-without_switch c number is
IsCircuit-after c vectors (Strength number strength) allowed is =
    IsCircuit-with_strength c number strength (unrefused_strength c number strength allowed) is
IsCircuit-after c vectors (Kind number kind) allowed is = IsCircuit-with_kind c number kind is
IsCircuit-after c vectors (Wire number gate source drain) allowed is = IsCircuit-with_wires c number gate source drain is

-- and no edit takes a node away
nodes-after : (c : CircuitData) (vectors : List (List ℕ × List ℕ)) (edit : Edit) → nodes c.graph ≤ nodes (circuit_after c vectors edit).graph
nodes-after c vectors (Input names) = omega (arith, nodes-with_inputs (all_named c vectors names) c)
nodes-after c vectors (Store name size) = omega (arith, length-set c.graph.levels (node_named c name) (level_of_size size))
nodes-after c vectors (Add kind gate source drain strength) = nodes-with_transistor c kind (strength_for kind strength) gate source drain
nodes-after c vectors (Wire number gate source drain) = nodes-with_wires c number gate source drain
nodes-after c vectors other = omega arith

-- ---- phases and cycles

-- a phase keeps the data ready
phase-ready : (session new : SessionData) (lines : List Line) → IsPhase session new lines → IsReady session → IsReady new
phase-ready session new lines phase ready = rw phase.moved (record {
  netlist = ready.netlist;
  states = length-settles session.circuit.graph session.state session.limit phase.next phase.steps phase.joined ready.states phase.settles;
  sound = sound-settles session.circuit ready.netlist session.state session.limit phase.next phase.steps phase.joined ready.states phase.settles ready.sound;
  free = ready.free;
  saved = ready.saved;
})

-- so do clocks' states at a place
with_beat-ready : (session : SessionData) (place : ℕ) → IsReady session → IsReady (with_beat session place)
with_beat-ready session place ready = record {
  netlist = ready.netlist;
  states = length-states_with session.clocks place session.state ∙ ready.states;
  sound = sound-states_with session.clocks place session.state ready.free ready.sound;
  free = ready.free;
  saved = ready.saved;
}

-- every state has a phase
pub phase_exists : (session : SessionData) → IsReady session → (new : SessionData) × (lines : List Line) × IsPhase session new lines
phase_exists session ready =
    let found = every_state session.circuit.graph ready.netlist.wired session.state ready.states session.limit in
    let new : SessionData = moved_to session found.0 in (
      new,
      wave_by new found.1 found.2 ∷ [],
      record { next = found.0; steps = found.1; joined = found.2; settles = found.3; moved = refl; wrote = refl },
    )

-- phases at places keep the data ready
pub beats-ready : (places : List ℕ) (session new : SessionData) (lines : List Line) → AreBeats session places new lines → IsReady session → IsReady new
beats-ready [] session new lines (same, none) ready = rw same ready
beats-ready (place ∷ places) session new lines (mid, front, back, phase, beats, whole) ready =
    beats-ready places mid new back beats (phase-ready (with_beat session place) mid front phase (with_beat-ready session place ready))

-- there are phases at all places
pub beats_exist : (places : List ℕ) (session : SessionData) → IsReady session →
    (new : SessionData) × (lines : List Line) × AreBeats session places new lines
beats_exist [] session ready = (session, [], (refl, refl))
beats_exist (place ∷ places) session ready =
    let beat = with_beat-ready session place ready in
    let found = phase_exists (with_beat session place) beat in
    let others = beats_exist places found.0 (phase-ready (with_beat session place) found.0 found.1 found.2 beat) in
    (others.0, found.1 ++ others.1, (found.0, found.1, others.1, found.2, others.2, refl))

-- ---- all commands

-- each command that has the circuit built has an effect if the circuit has texts
run_exists : (session : SessionData) → IsReady session → (run : Run) → (texts : List GroupTextData) × HasTexts session.large session.circuit.graph texts →
    (new : SessionData) × (lines : List Line) × RunEffect session run new lines
run_exists session ready Step has =
    let found = exists session.circuit.graph ready.netlist.wired session.state in
    let new : SessionData = moved_to session found.0 in
    (new, wave_by new 1 false ∷ [], record { next = found.0; step = found.1; moved = refl; wrote = refl })
run_exists session ready Phase has = phase_exists session ready
run_exists session ready (Cycle times) has = beats_exist (places_in (places_of session.clocks) times) session ready
run_exists session ready Report has = (
  record session { fresh = 0 },
  Reported (length has.1.groups) (length (first_texts has.0)) session.fresh ∷ [],
  record { texts = has.0; has = has.1; moved = refl; wrote = refl },
)

-- so every command has an effect if it isn't refused, and the circuit has texts if it was built
effect_exists : (session : SessionData) → IsReady session → (command : Command) →
    (builds command ≡ true → (texts : List GroupTextData) × HasTexts session.large session.circuit.graph texts) →
    (new : SessionData) × (lines : List Line) × Effect session command new lines
effect_exists session ready (family.Edit edit) has = (with_circuit session (circuit_after session.circuit session.vectors edit), [], (refl, refl))
effect_exists session ready (family.Give give) has =
    (record session { state = state_given session give }, [], (refl, refl))
effect_exists session ready (family.Setup setup) has = (setup_after session setup, [], (refl, refl))
effect_exists session ready (family.Run run) has = run_exists session ready run (has refl)
effect_exists session ready (family.Tell tell) has =
    (with_told session (told_by session tell), told_by session tell, (refl, refl))

-- a build keeps the data ready
ready-build : (old mid : SessionData) (texts : List GroupTextData) → IsBuild old mid texts → IsReady old → IsReady mid
ready-build old mid texts build ready =
    rw build.used (record { netlist = ready.netlist; states = ready.states; sound = ready.sound; free = ready.free; saved = ready.saved })

-- how a formed command ends: it is refused by the data, or for the size of a group, or it is done
pub data Ends (session : SessionData) (command : Command) : Type 0 where
  refused : (refusal : Refusal) → refusal_of session command ≡ Some refusal → Ends session command
  too_large : (fault : BuildFault) → refusal_of session command ≡ None → builds command ≡ true → TellsRefused session.large session.circuit.graph fault →
      Ends session command
  performed : (new : SessionData) (lines : List Line) (texts : List GroupTextData) → Performs session command new lines texts → Ends session command

-- a command that builds nothing is done if it isn't refused
still_ends : (session : SessionData) (command : Command) → IsReady session → builds command ≡ false → refusal_of session command ≡ None →
    Ends session command
still_ends session command ready still allowed =
    let outcome = effect_exists session ready command (λ building. absurd (cc)) in
    performed outcome.0 outcome.1 [] (still_performs session outcome.0 command outcome.1 still allowed outcome.2)

-- one that builds is done where moreover the circuit's groups have texts
built_ends : (session : SessionData) (command : Command) (texts : List GroupTextData) → IsReady session → builds command ≡ true →
    refusal_of session command ≡ None → HasTexts session.large session.circuit.graph texts → Ends session command
built_ends session command texts ready building allowed has =
    let fresh : List GroupTextData = new_texts session.kept texts in
    let mid : SessionData = with_present session texts in
    let build : IsBuild session mid fresh = record { present = texts; has = has; news = refl; used = refl } in
    let outcome = effect_exists mid (ready-build session mid fresh build ready) command (λ builds. (texts, has)) in
    performed outcome.0 outcome.1 fresh (built_performs session mid outcome.0 command outcome.1 fresh building build allowed outcome.2)

-- each formed command ends
pub ends : (session : SessionData) (command : Command) → IsReady session → IsFormed command → Ends session command
ends session command ready formed = by (refusal_of session command) (builds command) refl refl (texts_or_size session.large session.circuit.graph ready.netlist.wired)
  where
    by : (found : Option Refusal) (building : Bool) → refusal_of session command ≡ found → builds command ≡ building →
        ((texts : List GroupTextData) × HasTexts session.large session.circuit.graph texts) ⊎ ((fault : BuildFault) × TellsRefused session.large session.circuit.graph fault) →
        Ends session command
    by (Some refusal) building is does size = refused refusal is
    by None false is does size = still_ends session command ready does is
    by None true is does (inl has) = built_ends session command has.0 ready does is has.1
    by None true is does (inr large) = too_large large.0 is does large.1

-- the data stay ready where nodes past the rails get states
ready-assigned : (old : SessionData) (list : List (ℕ × Tern)) → All (λ pair. RAILS ≤ pair.0) list → IsReady old →
    IsReady (record old { state = assigned old.state list })
ready-assigned old list past ready = record {
  netlist = ready.netlist;
  states = length-assigned list old.state ∙ ready.states;
  sound = sound-assigned list old.state past ready.sound;
  free = ready.free;
  saved = ready.saved;
}

-- so they do by a command that gives states and isn't refused
ready-give : (old : SessionData) (give : Give) → refusal_of_give old give ≡ None → IsReady old → IsReady (record old { state = state_given old give })
ready-give old (Set list) allowed ready =
    ready-assigned old (states_by old.circuit old.vectors list) (set-past old.circuit old.vectors list allowed) ready
ready-give old (Charge list) allowed ready =
    ready-assigned old (states_by old.circuit old.vectors list) (charge-past old.circuit old.vectors list allowed) ready
ready-give old (Back name) allowed ready =
    let fits = kept-fits (nodes old.circuit.graph) old.saves name ready.saved in
    record {
      netlist = ready.netlist;
      states = length-back (nodes old.circuit.graph) (kept_under old.saves name) old.state ready.states fits ∙ ready.states;
      sound = sound-back (nodes old.circuit.graph) (kept_under old.saves name) old.state ready.sound fits;
      free = ready.free;
      saved = ready.saved;
    }

-- the data stay ready with what is set for later commands
ready-set : (old : SessionData) (setup : Setup) → refusal_of_setup old setup ≡ None → IsReady old → IsReady (setup_after old setup)
ready-set old (Clock list) allowed ready = record {
  netlist = ready.netlist;
  states = ready.states;
  sound = ready.sound;
  free = clocks_past old.circuit list (set_past old.circuit list (or_else-none (length_refusal list) _ allowed).1);
  saved = ready.saved;
}
ready-set old (Save name) allowed ready = record {
  netlist = ready.netlist;
  states = ready.states;
  sound = ready.sound;
  free = ready.free;
  saved = with_save-fits (nodes old.circuit.graph) old.saves name old.state ready.saved (fits-present old ready);
}
ready-set old other allowed ready =
    record { netlist = ready.netlist; states = ready.states; sound = ready.sound; free = ready.free; saved = ready.saved }

-- and after steps and reports
ready-run : (old new : SessionData) (run : Run) (lines : List Line) → RunEffect old run new lines → IsReady old → IsReady new
ready-run old new Step lines effect ready = rw effect.moved (record {
  netlist = ready.netlist;
  states = effect.step.count;
  sound = sound-step old.circuit ready.netlist old.state effect.next effect.step ready.sound;
  free = ready.free;
  saved = ready.saved;
})
ready-run old new Phase lines effect ready = phase-ready old new lines effect ready
ready-run old new (Cycle times) lines effect ready = beats-ready (places_in (places_of old.clocks) times) old new lines effect ready
ready-run old new Report lines effect ready =
    rw effect.moved (record { netlist = ready.netlist; states = ready.states; sound = ready.sound; free = ready.free; saved = ready.saved })

-- so an effect keeps the data ready
ready-effect : (old new : SessionData) (command : Command) (lines : List Line) → refusal_of old command ≡ None → Effect old command new lines →
    IsReady old → IsReady new
ready-effect old new (family.Edit edit) lines allowed effect ready =
    rw (effect.0) (IsReady-grown old (circuit_after old.circuit old.vectors edit) (IsCircuit-after old.circuit old.vectors edit allowed ready.netlist)
    (nodes-after old.circuit old.vectors edit) ready)
ready-effect old new (family.Give give) lines allowed effect ready = rw (effect.0) (ready-give old give allowed ready)
ready-effect old new (family.Setup setup) lines allowed effect ready = rw (effect.0) (ready-set old setup allowed ready)
ready-effect old new (family.Run run) lines allowed effect ready = ready-run old new run lines effect ready
ready-effect old new (family.Tell tell) lines allowed effect ready =
    rw (effect.0) (record { netlist = ready.netlist; states = ready.states; sound = ready.sound; free = ready.free; saved = ready.saved })

-- what a command does keeps the data ready
pub ready-does : (session new : SessionData) (command : Command) (lines : List Line) → IsReady session → Does session command new lines → IsReady new
ready-does session new command lines ready does = ready-effect session new command lines does.allowed does.effect ready

-- what stands before an effect keeps the data ready
ready-prepared : (does : Bool) (old mid : SessionData) (texts : List GroupTextData) → BuildsIf does old mid texts → IsReady old → IsReady mid
ready-prepared true old mid texts build ready = ready-build old mid texts build ready
ready-prepared false old mid texts still ready = rw (still.0) ready

-- and so does all that is done for a command
pub ready-performs : (session new : SessionData) (command : Command) (lines : List Line) (texts : List GroupTextData) → IsReady session →
    Performs session command new lines texts → IsReady new
ready-performs session new command lines texts ready performs =
    ready-does performs.mid new command lines (ready-prepared (builds command) session performs.mid texts performs.prepares ready) performs.does

-- a session starts ready
pub ready-start : (circuit : CircuitData) → IsCircuit circuit → IsReady (start_of circuit)
ready-start circuit is = record {
  netlist = is;
  states = omega (arith, length-replicate (nodes circuit.graph - RAILS) Unk, is.railed);
  sound = record { gnd = refl; vdd = refl };
  free = All-nil (λ (clock : ClockData). RAILS ≤ clock.node);
  saved = All-nil (λ (save : List ℕ × List Tern). FitsSave (nodes circuit.graph) save.1);
}
