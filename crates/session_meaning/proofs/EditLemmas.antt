-- A session after an edit of its circuit is one still, and the edit is answered by its refusal.
-- The plan: edits of switches keep the nodes, those that make names add some, whose states are X; so what speaks of nodes holds as before.
use Rattle.std.proofs.Common.{◌≡◌, ℕ, ◌+◌, ◌-◌, ◌<◌, ◌≤◌, Bool, true, false, List, [], ◌∷◌, ◌++◌, length, replicate, Option, None, Some, Result, Ok, Err, OnOk, is_some, nat_lt, nat_le, refl, sym, ap, subst, ◌∙◌, inl, inr, arith, length-append, append-nil}
use Rattle.std.specs.Prelude.{◌⊎◌, if◌then◌else◌}
use Rattle.std.proofs.lemmas.List.{length-replicate, length-set, get_or_append_left}
use Rattle.std.proofs.lemmas.List.Elements.{All-weaker}
use Rattle.std.proofs.lemmas.Bool.Decides.{nat_tests}
use Rattle.ternary.specs.declared.tern.Tern.{Tern}
use Rattle.ternary.specs.declared.tern.Tern.TheVariants.{Zero, Unk}
use Rattle.strength_order.specs.declared.TheConstants.{INPUT_LEVEL, LEAST_SIZE_LEVEL}
use Rattle.strength_order.specs.Levels.{level_of_size}
use Rattle.switch_paths.specs.declared.TheConstants.{GND, VDD, RAILS}
use Rattle.switch_paths.specs.declared.switching.Switch.{Switch}
use Rattle.switch_paths.specs.declared.switching.SwitchKind.{SwitchKind}
use Rattle.switch_paths.specs.Graphs.{GraphData, nodes}
use Rattle.channel_groups.specs.declared.change.Change.{Change}
use Rattle.group_text.specs.Texts.{GroupTextData}
use Rattle.column_stage.specs.Columns.{AreSound, IsSoundState, with_new_nodes}
use Rattle.column_stage.specs.Edits.{IsUndone}
use Rattle.column_stage.specs.declared.TheConstants.{NEW_NODES}
use Rattle.netlist.specs.declared.TheConstants.{MOST_NODES, MOST_SWITCHES}
use Rattle.netlist.specs.declared.fault.EditFault.{EditFault}
use Rattle.netlist.specs.declared.fault.EditFault.TheVariants as edit
use Rattle.netlist.specs.Faults.{MakingFault, IsAnswered}
use Rattle.netlist.specs.Names.{node_of}
use Rattle.netlist.specs.Circuits.{CircuitData, IsCircuit}
use Rattle.netlist.specs.Edits.{answer_of, is_strength, add_fault, node_named, rail_fault, strength_fault, switch_numbered, wire_fault, with_input, with_node, with_nodes, with_new_node, with_transistor, with_wires, with_place, with_level}
use Rattle.script_lang.specs.declared.command.Command.{Command}
use Rattle.script_lang.specs.declared.command.Command.TheVariants as family
use Rattle.script_lang.specs.declared.command.Edit.{Edit}
use Rattle.script_lang.specs.declared.command.Edit.TheVariants as asked
use Rattle.session_meaning.specs.declared.switches.SwitchEdit.{SwitchEdit}
use Rattle.session_meaning.specs.declared.switches.SwitchEdit.TheVariants.{Removal, Strength, Kind}
use Rattle.session_meaning.specs.declared.fault.ApplyFault.{ApplyFault}
use Rattle.session_meaning.specs.Sessions.{SessionData, HeldSession, IsHeldSession, IsReady, IsSession}
use Rattle.session_meaning.specs.Refusals.{refusal_of, refusal_of_edit, making_refusal, edit_refusal, all_named, strength_for}
use Rattle.session_meaning.specs.Effects.{circuit_after, with_circuit, with_inputs}
use Rattle.session_meaning.specs.Preparing.{fault_of_edit}
use Rattle.session_meaning.specs.Switches.{place_after, edit_fault, edit_of}
use Rattle.session_meaning.specs.Outcomes.{Does, Quietly}
use Rattle.node_words.proofs.WithinLemmas.{within-grown}
use Rattle.session_meaning.proofs.SaveLemmas.{saves-grown}

-- ---- nodes

-- a name makes one node at most
nodes-with_node : (c : CircuitData) (name : List ℕ) → nodes (with_node c name).graph ≤ nodes c.graph + 1
nodes-with_node c name = by (is_some (node_of c.names name))
  where
    by : (known : Bool) → nodes (if known then c else with_new_node c name).graph ≤ nodes c.graph + 1
    by true = omega arith
    by false = omega (arith, length-append c.graph.levels (LEAST_SIZE_LEVEL ∷ []))

-- names make as many as they are at most
pub nodes-with_nodes-most : (names : List (List ℕ)) (c : CircuitData) → nodes (with_nodes c names).graph ≤ nodes c.graph + length names
nodes-with_nodes-most [] c = omega arith
nodes-with_nodes-most (name ∷ names) c = omega (arith, nodes-with_nodes-most names (with_node c name), nodes-with_node c name)

-- ---- sessions

-- a session is ready with another circuit of more nodes, whose states are X
pub IsReady-grown : (session : SessionData) (c : CircuitData) → IsCircuit c → nodes session.circuit.graph ≤ nodes c.graph → IsReady session →
    IsReady (with_circuit session c)
IsReady-grown session c is_circuit more is =
    let rest : List Tern = replicate (nodes c.graph - length session.state) Unk in
    let railed = is.netlist.railed in
    record {
      netlist = is_circuit;
      states = omega (arith, length-append session.state rest, length-replicate (nodes c.graph - length session.state) Unk, is.states, more);
      sound = record {
        gnd = get_or_append_left session.state rest Zero GND (omega (arith, railed, is.states)) ∙ is.sound.gnd;
        vdd = get_or_append_left session.state rest Zero VDD (omega (arith, railed, is.states)) ∙ is.sound.vdd;
      };
      free = is.free;
      saved = saves-grown (nodes session.circuit.graph) (nodes c.graph) session.saves more is.saved;
    }

-- and is one
pub IsSession-grown : (session : SessionData) (c : CircuitData) → IsCircuit c → nodes session.circuit.graph ≤ nodes c.graph → IsSession session →
    IsSession (with_circuit session c)
IsSession-grown session c is_circuit more is = record {
  ready = IsReady-grown session c is_circuit more is.ready;
  watched = All-weaker (λ (node : ℕ). node < nodes session.circuit.graph) (λ node. node < nodes c.graph) (λ node low. omega (arith, low, more))
      session.watched is.watched;
  few = is.few;
  clocks = All-weaker (λ clock. clock.node < nodes session.circuit.graph) (λ clock. clock.node < nodes c.graph)
      (λ clock low. omega (arith, low, more)) session.clocks is.clocks;
  places = is.places;
  some = is.some;
  vectors = within-grown (nodes session.circuit.graph) (nodes c.graph) session.vectors more is.vectors;
  low = is.low;
  high = is.high;
}

-- if no node is new, no state is
pub same_states : (state : List Tern) (count : ℕ) → count ≤ length state → with_new_nodes state count ≡ state
same_states state count few =
    let none : count - length state ≡ 0 = omega (few, arith) in
    ap (λ (n : ℕ). state ++ replicate n Unk) none ∙ append-nil state

-- so a session whose circuit has no new node has the state that it had
pub kept_states : (session : SessionData) (c : CircuitData) → nodes c.graph ≤ length session.state → (record session { circuit = c }) ≡ with_circuit session c
kept_states session c few = ap (λ (state : List Tern). record session { circuit = c; state = state }) (sym (same_states session.state (nodes c.graph) few))

-- `input` makes no new node, and gives no new name
pub nodes-with_inputs : (list : List ℕ) (c : CircuitData) → nodes (with_inputs c list).graph ≡ nodes c.graph
nodes-with_inputs [] c = refl
nodes-with_inputs (node ∷ list) c = nodes-with_inputs list (with_input c node) ∙ length-set c.graph.levels node INPUT_LEVEL

-- an edit makes three nodes at most
pub nodes-after-most : (c : CircuitData) (vectors : List (List ℕ × List ℕ)) (edit : Edit) →
    nodes (circuit_after c vectors edit).graph ≤ nodes c.graph + 3
nodes-after-most c vectors (asked.Input names) = omega (arith, nodes-with_inputs (all_named c vectors names) c)
nodes-after-most c vectors (asked.Store name size) = omega (arith, length-set c.graph.levels (node_named c name) (level_of_size size))
nodes-after-most c vectors (asked.Add kind gate source drain strength) = nodes-with_nodes-most (gate ∷ source ∷ drain ∷ []) c
nodes-after-most c vectors (asked.Wire number gate source drain) = nodes-with_nodes-most (gate ∷ source ∷ drain ∷ []) c
nodes-after-most c vectors other = omega arith

-- ---- room for the nodes of an edit

-- another level of a node asks for none
pub room_level : (before after : CircuitData) (node level spare : ℕ) → after ≡ with_level before node level →
    nodes after.graph ≤ nodes before.graph + spare
room_level before after node level spare is =
    subst (λ (c : CircuitData). nodes c.graph ≤ nodes before.graph + spare) (sym is) (omega (arith, length-set before.graph.levels node level))

-- nor does what stands at a transistor's place
pub room_place : (before after : CircuitData) (number spare : ℕ) (there : Option Switch) → after ≡ with_place before number there →
    nodes after.graph ≤ nodes before.graph + spare
room_place before after number spare there is =
    subst (λ (c : CircuitData). nodes c.graph ≤ nodes before.graph + spare) (sym is) (omega arith)

-- a transistor more asks for that of its three names at most
pub room_transistor : (before after : CircuitData) (kind : SwitchKind) (strength spare : ℕ) (gate source drain : List ℕ) →
    after ≡ with_transistor before kind strength gate source drain → NEW_NODES ≤ spare → nodes after.graph ≤ nodes before.graph + spare
room_transistor before after kind strength spare gate source drain is enough =
    let most : nodes (with_transistor before kind strength gate source drain).graph ≤ nodes before.graph + 3 =
    nodes-with_nodes-most (gate ∷ source ∷ drain ∷ []) before in
    let three : 3 ≤ spare = enough in
    subst (λ (c : CircuitData). nodes c.graph ≤ nodes before.graph + spare) (sym is) (omega (arith, most, three))

-- and so do other terminals
pub room_wires : (before after : CircuitData) (number spare : ℕ) (gate source drain : List ℕ) → after ≡ with_wires before number gate source drain →
    NEW_NODES ≤ spare → nodes after.graph ≤ nodes before.graph + spare
room_wires before after number spare gate source drain is enough =
    let most : nodes (with_wires before number gate source drain).graph ≤ nodes before.graph + 3 =
    nodes-with_nodes-most (gate ∷ source ∷ drain ∷ []) before in
    let three : 3 ≤ spare = enough in
    subst (λ (c : CircuitData). nodes c.graph ≤ nodes before.graph + spare) (sym is) (omega (arith, most, three))

-- ---- the stage

module _ {M : Type 0} (columns : M → ℕ) (states : M → ℕ → List Tern) (serves : M → GraphData → List GroupTextData → Type 0) where
  -- what a stage asks of an edit, where it has a session's states and serves its circuit
  pub asks_edit : (session : HeldSession M) → IsHeldSession columns states serves session → (g : GraphData) (change : Change) (stage : M) (spare : ℕ)
      (kept : List GroupTextData) → IsUndone session.core.circuit.graph g change →
      AreSound session.core.circuit.graph (columns stage) (states stage) → nodes g ≤ nodes session.core.circuit.graph + spare → serves stage session.core.circuit.graph kept →
      (before : GraphData) × IsUndone before g change × AreSound before (columns stage) (states stage) × (nodes g ≤ nodes before + spare) × serves stage before kept
  asks_edit session held g change stage spare kept undone sound room serving = (
    session.core.circuit.graph,
    undone,
    sound,
    room,
    serving,
  )

  -- the session with this circuit and this stage, under this bound, and with these texts kept
  abbrev pub edited : HeldSession M → CircuitData → M → Option ℕ → List GroupTextData → HeldSession M
  edited session c stage bound kept =
      record { core = record session.core { circuit = c; state = states stage 0; bound = bound; kept = kept }; stage = stage }

  module _ (session : HeldSession M) (c : CircuitData) (stage : M) (bound : Option ℕ) (kept : List GroupTextData)
      (grown : states stage 0 ≡ with_new_nodes session.core.state (nodes c.graph)) (limit : bound ≡ session.core.bound) (same : kept ≡ session.core.kept) where
    -- its data are those with the circuit
    pub core_edited : (edited session c stage bound kept).core ≡ with_circuit session.core c
    core_edited = λ i. record session.core { circuit = c; state = grown i; bound = limit i; kept = same i }

    -- where no node is new, the states stay too
    pub core_kept : nodes c.graph ≤ length session.core.state → (edited session c stage bound kept).core ≡ record session.core { circuit = c }
    core_kept few = core_edited ∙ sym (kept_states session.core c few)

    -- if each column has X for each new node, all are sound
    sounds_edited : IsCircuit c → nodes session.core.circuit.graph ≤ nodes c.graph → columns stage ≡ columns session.stage →
        ((column : ℕ) → column < columns session.stage → states stage column ≡ with_new_nodes (states session.stage column) (nodes c.graph)) →
        IsHeldSession columns states serves session → AreSound c.graph (columns stage) (states stage)
    sounds_edited is_circuit more count each held = λ column inside.
        let within : column < columns session.stage = subst (λ (n : ℕ). column < n) count inside in
        let sound = held.sound column within in
        let ready = IsReady-grown (record session.core { state = states session.stage column }) c is_circuit more (record {
          netlist = held.core.ready.netlist;
          states = sound.counted;
          sound = sound.sound;
          free = held.core.ready.free;
          saved = held.core.ready.saved;
        }) in
        subst (λ (state : List Tern). IsSoundState c.graph state) (sym (each column within)) (record { counted = ready.states; sound = ready.sound })

    -- it is a session
    pub held_edited : IsCircuit c → nodes session.core.circuit.graph ≤ nodes c.graph → columns stage ≡ columns session.stage →
        ((column : ℕ) → column < columns session.stage → states stage column ≡ with_new_nodes (states session.stage column) (nodes c.graph)) →
        serves stage c.graph session.core.kept → IsHeldSession columns states serves session →
        IsHeldSession columns states serves (edited session c stage bound kept)
    held_edited is_circuit more count each serving held = record {
      core = subst IsSession (sym core_edited) (IsSession-grown session.core c is_circuit more held.core);
      some = subst (λ (n : ℕ). 1 ≤ n) (sym count) held.some;
      sound = sounds_edited is_circuit more count each held;
      same = refl;
      served = subst (serves stage c.graph) (sym same) serving;
    }

  -- where room was taken before an edit, the columns' states are those from before with the new nodes
  pub grown_behind : (start mid new : M) (count : ℕ) → columns mid ≡ columns start → ((column : ℕ) → column < columns start → states mid column ≡ states start column) →
      ((column : ℕ) → column < columns mid → states new column ≡ with_new_nodes (states mid column) count) → (column : ℕ) → column < columns start →
      states new column ≡ with_new_nodes (states start column) count
  grown_behind start mid new count as_many same grown column inside =
      grown column (subst (λ (n : ℕ). column < n) (sym as_many) inside) ∙ ap (λ (state : List Tern). with_new_nodes state count) (same column inside)

-- ---- refusals

-- a transistor that isn't refused has no fault
pub unrefused_add : (c : CircuitData) (strength : ℕ) (gate source drain : List ℕ) → making_refusal (add_fault c strength gate source drain) ≡ None →
    add_fault c strength gate source drain ≡ None
unrefused_add c strength gate source drain none =
    by (is_strength c.profile strength) (nat_lt MOST_NODES (nodes (with_nodes c (gate ∷ source ∷ drain ∷ [])).graph))
    (nat_le MOST_SWITCHES (length c.graph.places)) none
  where
    by : (accepted many full : Bool) →
        making_refusal (if accepted then (if many then Some MakingFault.TooManyNodes else (if full then Some MakingFault.TooManySwitches else None)) else Some MakingFault.BadStrength) ≡ None →
        (if accepted then (if many then Some MakingFault.TooManyNodes else (if full then Some MakingFault.TooManySwitches else None)) else Some MakingFault.BadStrength) ≡ None
    by true true full none = absurd (cc)
    by true false true none = absurd (cc)
    by true false false none = refl
    by false many full none = absurd (cc)

-- nor has one whose strength isn't refused
pub unrefused_strength : (c : CircuitData) (number strength : ℕ) → edit_refusal (strength_fault c number strength) ≡ None → strength_fault c number strength ≡ None
unrefused_strength c number strength none = by (is_some (switch_numbered c number)) (is_strength c.profile strength) none
  where
    by : (there accepted : Bool) → edit_refusal (if there then (if accepted then None else Some edit.BadStrength) else Some edit.NoSuchSwitch) ≡ None →
        (if there then (if accepted then None else Some edit.BadStrength) else Some edit.NoSuchSwitch) ≡ None
    by true true none = refl
    by true false none = absurd (cc)
    by false accepted none = absurd (cc)

-- an edit that was done has no fault
no_fault : (found : Option EditFault) → Ok tt ≡ answer_of found → found ≡ None
no_fault None answered = refl
no_fault (Some fault) answered = absurd (cc)

-- and one that wasn't has this
pub the_fault : (found : Option EditFault) (fault : EditFault) → Err fault ≡ answer_of found → found ≡ Some fault
the_fault None fault answered = absurd (cc)
the_fault (Some other) fault answered = cc

-- which refuses its command, or is lack of memory
pub refused_quietly : (old new : SessionData) (command : Command) (found : Option EditFault) (fault : EditFault) →
    refusal_of old command ≡ edit_refusal found → found ≡ Some fault → new ≡ old → Quietly old command new (Err (fault_of_edit fault))
refused_quietly old new command found edit.NoSuchSwitch is there same = (is ∙ ap edit_refusal there, same)
refused_quietly old new command found edit.Rail is there same = (is ∙ ap edit_refusal there, same)
refused_quietly old new command found edit.BadStrength is there same = (is ∙ ap edit_refusal there, same)
refused_quietly old new command found edit.BadSize is there same = (is ∙ ap edit_refusal there, same)
refused_quietly old new command found edit.AliasTaken is there same = same
refused_quietly old new command found edit.TooManyNodes is there same = (is ∙ ap edit_refusal there, same)
refused_quietly old new command found edit.TooManySwitches is there same = (is ∙ ap edit_refusal there, same)
refused_quietly old new command found edit.NoMemory is there same = same

-- so does one that lacked memory or has this
pub lacking_quietly : (old new : SessionData) (command : Command) (found : Option EditFault) (fault : EditFault) →
    refusal_of old command ≡ edit_refusal found → (fault ≡ edit.NoMemory) ⊎ (found ≡ Some fault) → new ≡ old →
    Quietly old command new (Err (fault_of_edit fault))
lacking_quietly old new command found fault is (inl lacks) same =
    subst (λ (other : EditFault). Quietly old command new (Err (fault_of_edit other))) (sym lacks) same
lacking_quietly old new command found fault is (inr there) same = refused_quietly old new command found fault is there same

-- and one that makes names or a transistor
pub making_quietly : (old new : SessionData) (command : Command) (found : Option MakingFault) (fault : EditFault) →
    refusal_of old command ≡ making_refusal found → IsAnswered found fault → new ≡ old → Quietly old command new (Err (fault_of_edit fault))
making_quietly old new command found edit.NoSuchSwitch is answered same = absurd answered
making_quietly old new command found edit.Rail is answered same = absurd answered
making_quietly old new command found edit.BadStrength is answered same = (is ∙ ap making_refusal answered, same)
making_quietly old new command found edit.BadSize is answered same = absurd answered
making_quietly old new command found edit.AliasTaken is answered same = same
making_quietly old new command found edit.TooManyNodes is answered same = (is ∙ ap making_refusal answered, same)
making_quietly old new command found edit.TooManySwitches is answered same = (is ∙ ap making_refusal answered, same)
making_quietly old new command found edit.NoMemory is answered same = same

-- by what is known of the session and of the fault that is told
pub quietly_as : (session old new : SessionData) (command : Command) (fault : EditFault) (told : ApplyFault) → session ≡ old →
    told ≡ fault_of_edit fault → Quietly session command new (Err (fault_of_edit fault)) → Quietly old command new (Err told)
quietly_as session old new command fault told is tells quiet =
    subst (λ (other : ApplyFault). Quietly old command new (Err other)) (sym tells)
    (subst (λ (other : SessionData). Quietly other command new (Err (fault_of_edit fault))) is quiet)

-- the data with this circuit, these states and these texts are those from before if all of them are
pub same_halted : (session : SessionData) (c : CircuitData) (state : List Tern) (kept : List GroupTextData) → c ≡ session.circuit → state ≡ session.state →
    kept ≡ session.kept → (record session { circuit = c; state = state; kept = kept }) ≡ session
same_halted session c state kept is same texts = λ i. record session { circuit = is i; state = same i; kept = texts i }

-- ---- edits

-- an edit that isn't refused, and whose new nodes are X: what its command does
pub edit_does : (session new : SessionData) (edit : Edit) (c : CircuitData) → refusal_of_edit session.circuit session.vectors edit ≡ None →
    c ≡ circuit_after session.circuit session.vectors edit → new ≡ with_circuit session c → Does session (family.Edit edit) new []
edit_does session new edit c allowed is same = record { allowed = allowed; effect = (same ∙ ap (with_circuit session) is, refl) }

-- and of one that makes no node, where the states stay
pub still_does : (session new : SessionData) (edit : Edit) (c : CircuitData) → refusal_of_edit session.circuit session.vectors edit ≡ None →
    c ≡ circuit_after session.circuit session.vectors edit → nodes c.graph ≤ length session.state → new ≡ record session { circuit = c } →
    Does session (family.Edit edit) new []
still_does session new edit c allowed is few same = record {
  allowed = allowed;
  effect = (same ∙ kept_states session c few ∙ ap (with_circuit session) is, refl);
}

-- nodes that are made input nodes: what their command does
pub inputs_does : (session new : SessionData) (names : List (List ℕ)) → length session.state ≡ nodes session.circuit.graph →
    refusal_of session (family.Edit (asked.Input names)) ≡ None →
    new ≡ record session { circuit = with_inputs session.circuit (all_named session.circuit session.vectors names) } →
    Does session (family.Edit (asked.Input names)) new []
inputs_does session new names counted allowed same =
    let list = all_named session.circuit session.vectors names in
    still_does session new (asked.Input names) (with_inputs session.circuit list) allowed refl
    (omega (arith, counted, nodes-with_inputs list session.circuit)) same

-- the refusal of an edit of a transistor that leaves its terminals
pub refusal_of-switch : (session : SessionData) (number : ℕ) (edit : SwitchEdit) →
    refusal_of session (family.Edit (edit_of number edit)) ≡ edit_refusal (edit_fault session.circuit number edit)
refusal_of-switch session number Removal = refl
refusal_of-switch session number (Strength strength) = refl
refusal_of-switch session number (Kind kind) = refl

-- and the circuit after it
circuit_after-switch : (c : CircuitData) (vectors : List (List ℕ × List ℕ)) (number : ℕ) (edit : SwitchEdit) →
    circuit_after c vectors (edit_of number edit) ≡ with_place c number (place_after c number edit)
circuit_after-switch c vectors number Removal = refl
circuit_after-switch c vectors number (Strength strength) = refl
circuit_after-switch c vectors number (Kind kind) = refl

-- a transistor that is edited so: what its command does
pub switched_does : (session new : SessionData) (c : CircuitData) (number : ℕ) (edit : SwitchEdit) →
    Ok tt ≡ answer_of (edit_fault session.circuit number edit) → c ≡ with_place session.circuit number (place_after session.circuit number edit) →
    new ≡ with_circuit session c → Does session (family.Edit (edit_of number edit)) new []
switched_does session new c number edit answered is same =
    edit_does session new (edit_of number edit) c
    (refusal_of-switch session number edit ∙ ap edit_refusal (no_fault (edit_fault session.circuit number edit) answered))
    (is ∙ sym (circuit_after-switch session.circuit session.vectors number edit)) same

-- a node past the rails is made an input node
pub input_made : (node : ℕ) (answer : Result (Unit {0}) EditFault) (Made : Type 0) → RAILS ≤ node → answer ≡ answer_of (rail_fault node) →
    OnOk answer Made → Made
input_made node answer Made past answered made = by (nat_lt node RAILS) refl answered
  where
    by : (rail : Bool) → nat_lt node RAILS ≡ rail → answer ≡ answer_of (if rail then Some edit.Rail else None) → Made
    by true is refused = absurd (grind (arith, nat_tests))
    by false is allowed = subst (λ (other : Result (Unit {0}) EditFault). OnOk other Made) allowed made

-- a transistor that is added: what its command does
pub added_does : (session new : SessionData) (c : CircuitData) (kind : SwitchKind) (strength : Option ℕ) (given : ℕ)
    (gate source drain : List ℕ) → given ≡ strength_for kind strength → add_fault session.circuit given gate source drain ≡ None →
    c ≡ with_transistor session.circuit kind given gate source drain → new ≡ with_circuit session c →
    Does session (family.Edit (asked.Add kind gate source drain strength)) new []
added_does session new c kind strength given gate source drain same none is grown =
    edit_does session new (asked.Add kind gate source drain strength) c
    (ap making_refusal (subst (λ (n : ℕ). add_fault session.circuit n gate source drain ≡ None) same none))
    (is ∙ ap (λ (n : ℕ). with_transistor session.circuit kind n gate source drain) same) grown

-- a transistor whose terminals are set: what its command does
pub rewired_does : (session new : SessionData) (c : CircuitData) (number : ℕ) (gate source drain : List ℕ) →
    wire_fault session.circuit number gate source drain ≡ None → c ≡ with_wires session.circuit number gate source drain →
    new ≡ with_circuit session c → Does session (family.Edit (asked.Wire number gate source drain)) new []
rewired_does session new c number gate source drain none is grown =
    edit_does session new (asked.Wire number gate source drain) c (ap edit_refusal none) is grown
