-- The commands of a fault build and tell nothing, and none of them is refused: so each run under a fault has a start.
use Rattle.std.proofs.Common.{◌≡◌, ℕ, ◌<◌, ◌≤◌, ◌==◌, ◌++◌, Bool, true, false, List, [], ◌∷◌, All, Option, Some, None, IfSome, Result, Ok, Err, is_some, nat_lt, if◌then◌else◌, refl, sym, ap, subst, ◌∙◌, arith, append-nil, get_or-set_same}
use Rattle.std.specs.Prelude.{unwrap_or, codes}
use Rattle.std.proofs.lemmas.Bool.Decides.{nat_tests}
use Rattle.std.proofs.lemmas.List.Elements.{All-nil, All-cons, All-head, All-tail}
use Rattle.ternary.specs.declared.tern.Tern.{Tern}
use Rattle.strength_order.specs.declared.TheConstants.{INPUT_LEVEL}
use Rattle.switch_paths.specs.declared.TheConstants.{GND, VDD, RAILS}
use Rattle.switch_paths.specs.declared.switching.SwitchKind.TheVariants.{Always}
use Rattle.switch_paths.specs.Graphs.{nodes}
use Rattle.netlist.specs.Names.{first_name, node_of}
use Rattle.netlist.specs.Circuits.{CircuitData, IsCircuit, called}
use Rattle.netlist.specs.Edits.{switch_numbered, with_input, without_switch, with_kind}
use Rattle.netlist.specs.declared.fault.EditFault.TheVariants as edit
use Rattle.group_text.specs.Texts.{GroupTextData}
use Rattle.script_lang.specs.declared.command.Command.{Command}
use Rattle.script_lang.specs.declared.command.Command.TheVariants as family
use Rattle.script_lang.specs.declared.command.Edit.TheVariants.{Input, Del, Kind}
use Rattle.script_lang.specs.declared.command.Give.TheVariants.{Set}
use Rattle.script_lang.specs.declared.value.Value.{Value}
use Rattle.script_lang.specs.declared.value.Value.TheVariants.{Letter}
use Rattle.node_words.specs.Words.{node_or_list}
use Rattle.node_values.specs.Givings.{with_state}
use Rattle.session_meaning.specs.declared.fault.ApplyFault.{ApplyFault}
use Rattle.session_meaning.specs.declared.fault.ApplyFault.TheVariants as apply
use Rattle.session_meaning.specs.declared.fault.Refusal.TheVariants as refusal
use Rattle.session_meaning.specs.Sessions.{SessionData, IsReady}
use Rattle.session_meaning.specs.Refusals.{refusal_of, refusal_of_edit, or_else, named_refusal, given_refusal, rail_at, set_at, values_refusal, edit_refusal, is_input}
use Rattle.session_meaning.specs.Effects.{circuit_after, state_given, with_circuit, with_inputs}
use Rattle.session_meaning.specs.Preparing.{BuildsIf}
use Rattle.session_meaning.specs.Sinks.{faults_with, faults_applied}
use Rattle.told_lines.specs.Lines.{Told}
use Rattle.session_meaning.specs.Outcomes.{Does, Accepts, Obeys}
use Rattle.session_meaning.proofs.EffectLemmas.{ready-start, ready-does}
use Rattle.fault_sim.specs.declared.fault.Fault.{Fault}
use Rattle.fault_sim.specs.declared.fault.Fault.TheVariants.{Open, Closed, Stuck}
use Rattle.fault_sim.specs.Changes.{commands_of}
use Rattle.fault_sim.specs.Faults.{IsFault}
use Rattle.fault_meaning.specs.Traces.{start_with, commands_under, AreDone}
use Rattle.fault_meaning.specs.Runnings.{IsQuiet, AreAllowed}

-- ---- quiet commands

pub quiet_commands : (c : CircuitData) (fault : Fault) → All IsQuiet (commands_of c fault)
quiet_commands c (Open number) =
    All-cons IsQuiet (family.Edit (Del number)) [] (record { still = refl; silent = λ old new lines effect. effect.1 }) (All-nil IsQuiet)
quiet_commands c (Closed number) =
    All-cons IsQuiet (family.Edit (Kind number Always)) [] (record { still = refl; silent = λ old new lines effect. effect.1 }) (All-nil IsQuiet)
quiet_commands c (Stuck node state) =
    let item : List ℕ × Value = (called c node, Letter state) in
    All-cons IsQuiet (family.Edit (Input (called c node ∷ []))) (family.Give (Set (item ∷ [])) ∷ []) (record { still = refl; silent = λ old new lines effect. effect.1 })
    (All-cons IsQuiet (family.Give (Set (item ∷ []))) [] (record { still = refl; silent = λ old new lines effect. effect.1 }) (All-nil IsQuiet))

-- what is done for a quiet command is its effect alone
pub quiet_done : {H : Type 0} (hear : H → Told → H) (old new : SessionData) (command : Command) (before after : H) (asked told : List GroupTextData) →
    IsQuiet command → Accepts hear old command new before after asked told → Does old command new [] × (told ≡ asked)
quiet_done hear old new command before after asked told quiet accepts =
    let performs = accepts.performs in
    let still : (performs.mid ≡ old) × (accepts.texts ≡ []) =
    subst (λ building. BuildsIf building old performs.mid accepts.texts) quiet.still performs.prepares in
    let nothing = quiet.silent performs.mid new accepts.lines performs.does.effect in (
      subst (λ (session : SessionData). Does session command new []) still.0
          (subst (Does performs.mid command new) nothing performs.does),
      accepts.analysed ∙ ap (λ (texts : List GroupTextData). asked ++ texts) still.1 ∙ append-nil asked,
    )

-- the same of what a call comes to
pub quiet_call : {H : Type 0} (hear : H → Told → H) (part : H → Told → H → Type 0) (old new : SessionData) (command : Command) (before after : H)
    (asked told : List GroupTextData) (refusals now : ℕ) → IsQuiet command →
    Obeys hear part old command new before after asked told refusals now (Ok tt) → Does old command new [] × (told ≡ asked)
quiet_call hear part old new command before after asked told refusals now quiet obeys =
    quiet_done hear old new command before after asked told quiet obeys.0

-- what a call comes to, and that its hearer didn't fail
abbrev pub CallComesTo : {H : Type 0} → (H → Told → H) → (H → Told → H → Type 0) → SessionData → Command → SessionData → H → H → List GroupTextData →
    List GroupTextData → ℕ → ℕ → Result (Unit {0}) ApplyFault → Type 0
CallComesTo hear part old command new before after asked told refusals now result =
    Obeys hear part old command new before after asked told refusals now result × (0 ≡ faults_applied 0 result)

-- a quiet command that isn't refused can lack memory alone
pub quiet_fault : {H : Type 0} (hear : H → Told → H) (part : H → Told → H → Type 0) (old new : SessionData) (command : Command) (before after : H)
    (asked told : List GroupTextData) (refusals now : ℕ) (fault : ApplyFault) → IsQuiet command → refusal_of old command ≡ None →
    0 ≡ faults_with 0 fault → Obeys hear part old command new before after asked told refusals now (Err fault) → fault ≡ apply.NoMemory
quiet_fault hear part old new command before after asked told refusals now (apply.Refused refusal) quiet allowed unfailed obeys =
    let cause = obeys.0.cause in
    absurd (cc)
quiet_fault hear part old new command before after asked told refusals now (apply.GroupNodes node count) quiet allowed unfailed obeys =
    let building : true ≡ false = sym obeys.0.building ∙ quiet.still in
    absurd (cc)
quiet_fault hear part old new command before after asked told refusals now (apply.GroupSwitches node count) quiet allowed unfailed obeys =
    let building : true ≡ false = sym obeys.0.building ∙ quiet.still in
    absurd (cc)
quiet_fault hear part old new command before after asked told refusals now apply.WriteFault quiet allowed unfailed obeys = absurd (omega (arith, unfailed))
quiet_fault hear part old new command before after asked told refusals now apply.NoMemory quiet allowed unfailed obeys = refl

-- ---- names

-- the first name of a node is that of the node
first_name-found : (names entries : List (List ℕ × ℕ)) (node : ℕ) (name : List ℕ) → All (λ entry. node_of names entry.0 ≡ Some entry.1) entries →
    first_name entries node ≡ Some name → node_of names name ≡ Some node
first_name-found names [] node name found is = absurd (cc)
first_name-found names (entry ∷ entries) node name found is =
    by (first_name-found names entries node name (All-tail (λ (one : List ℕ × ℕ). node_of names one.0 ≡ Some one.1) entry entries found))
    (entry.1 == node) refl is
  where
    by : (first_name entries node ≡ Some name → node_of names name ≡ Some node) → (here : Bool) → (entry.1 == node) ≡ here →
        (if here then Some entry.0 else first_name entries node) ≡ Some name → node_of names name ≡ Some node
    by others true here is =
        let same : entry.1 ≡ node = grind (arith, nat_tests) in
        let own : entry.0 ≡ name = cc in
        let at : node_of names entry.0 ≡ Some entry.1 = All-head (λ (one : List ℕ × ℕ). node_of names one.0 ≡ Some one.1) entry entries found in
        cc
    by others false here is = others is

-- a node that is no rail is found under what it is called
called_found : (c : CircuitData) (node : ℕ) → IsCircuit c → RAILS ≤ node → node < nodes c.graph → node_of c.names (called c node) ≡ Some node
called_found c node is no_rail low = by (node == GND) (node == VDD) (first_name c.names node) refl refl refl (is.names node low)
  where
    by : (gnd vdd : Bool) (first : Option (List ℕ)) → (node == GND) ≡ gnd → (node == VDD) ≡ vdd → first_name c.names node ≡ first →
        is_some (if gnd then Some (codes "Gnd") else (if vdd then Some (codes "Vdd") else first)) ≡ true →
        node_of c.names (unwrap_or (if gnd then Some (codes "Gnd") else (if vdd then Some (codes "Vdd") else first)) []) ≡ Some node
    by true vdd first is_gnd is_vdd at named = absurd (grind (arith, nat_tests))
    by false true first is_gnd is_vdd at named = absurd (grind (arith, nat_tests))
    by false false None is_gnd is_vdd at named = absurd (cc)
    by false false (Some name) is_gnd is_vdd at named = first_name-found c.names c.names node name is.found at

-- ---- no command of a fault is refused

no_rail : (node : ℕ) → RAILS ≤ node → nat_lt node RAILS ≡ false
no_rail node high = grind (arith, nat_tests)

-- a transistor that there is may be edited
there_edited : (there : Bool) → there ≡ true → edit_refusal (if there then None else Some edit.NoSuchSwitch) ≡ None
there_edited true is = refl
there_edited false is = absurd (cc)

-- a node that is no rail may be made an input node
input_allowed : (c : CircuitData) (name : List ℕ) (node : ℕ) → RAILS ≤ node → node_of c.names name ≡ Some node →
    refusal_of_edit c [] (Input (name ∷ [])) ≡ None
input_allowed c name node high found =
    ap (λ at. or_else (named_refusal rail_at (node_or_list at None)) None) found
    ∙ ap (λ (rail : Bool). or_else (or_else (if rail then Some refusal.Rail else None) None) None) (no_rail node high)

-- it is made one
input_made : (c : CircuitData) (name : List ℕ) (node : ℕ) → node_of c.names name ≡ Some node →
    circuit_after c [] (Input (name ∷ [])) ≡ with_input c node
input_made c name node found = ap (λ at. with_inputs c (unwrap_or (node_or_list at None) [] ++ [])) found

-- and then it may be set
set_allowed : (c : CircuitData) (name : List ℕ) (node : ℕ) (state : Tern) → RAILS ≤ node → node < nodes c.graph → node_of c.names name ≡ Some node →
    values_refusal (set_at (with_input c node)) (with_input c node) [] ((name, Letter state) ∷ []) ≡ None
set_allowed c name node state high low found =
    ap (λ at. or_else (given_refusal (set_at (with_input c node)) (with_state state (node_or_list at None))) None) found
    ∙ ap (λ (rail : Bool).
    or_else (or_else (if rail then Some refusal.Rail else (if is_input (with_input c node) node then None else Some refusal.NotInput)) None) None)
    (no_rail node high)
    ∙ ap (λ (level : ℕ). or_else (or_else (if level == INPUT_LEVEL then None else Some refusal.NotInput) None) None)
    (get_or-set_same c.graph.levels node INPUT_LEVEL 0 low)

-- in no place
pub allowed_commands : (c : CircuitData) (kept : List GroupTextData) (fault : Fault) → IsCircuit c → IsFault c fault →
    AreAllowed (start_with c kept) (commands_of c fault)
allowed_commands c kept (Open number) is faulty = (there_edited (is_some (switch_numbered c number)) faulty, λ mid does. tt)
allowed_commands c kept (Closed number) is faulty = (there_edited (is_some (switch_numbered c number)) faulty, λ mid does. tt)
allowed_commands c kept (Stuck node state) is faulty =
    let name = called c node in
    let found = called_found c node is faulty.0 faulty.1 in (
      input_allowed c name node faulty.0 found,
      λ mid does. (
        subst (λ (session : SessionData). refusal_of session (family.Give (Set ((name, Letter state) ∷ []))) ≡ None)
            (sym (does.effect.0 ∙ ap (with_circuit (start_with c kept)) (input_made c name node found)))
            (set_allowed c name node state faulty.0 faulty.1 found),
        λ last more. tt,
      ),
    )

-- ---- each run has a start

-- a start that is ready
pub record HasStart (c : CircuitData) (kept : List GroupTextData) (fault : Option Fault) : Type 0 where
  pub start : SessionData
  pub begins : AreDone (start_with c kept) (commands_under c fault) start
  pub ready : IsReady start

-- the data at the start are ready, whatever is kept
pub ready-start_with : (c : CircuitData) (kept : List GroupTextData) → IsCircuit c → IsReady (start_with c kept)
ready-start_with c kept is =
    let ready = ready-start c is in
    record { netlist = ready.netlist; states = ready.states; sound = ready.sound; free = ready.free; saved = ready.saved }

one_done : (c : CircuitData) (kept : List GroupTextData) (command : Command) (new : SessionData) → IsCircuit c →
    Does (start_with c kept) command new [] → IsReady new
one_done c kept command new is does = ready-does (start_with c kept) new command [] (ready-start_with c kept is) does

pub has_start : (c : CircuitData) (kept : List GroupTextData) (fault : Option Fault) → IsCircuit c → IfSome fault (IsFault c) → HasStart c kept fault
has_start c kept None is faulty = record { start = start_with c kept; begins = refl; ready = ready-start_with c kept is }
has_start c kept (Some (Open number)) is faulty =
    let old = start_with c kept in
    let new : SessionData = with_circuit old (without_switch c number) in
    let does : Does old (family.Edit (Del number)) new [] = record {
      allowed = there_edited (is_some (switch_numbered c number)) faulty;
      effect = (refl, refl);
    } in
    record { start = new; begins = (new, does, refl); ready = one_done c kept (family.Edit (Del number)) new is does }
has_start c kept (Some (Closed number)) is faulty =
    let old = start_with c kept in
    let new : SessionData = with_circuit old (with_kind c number Always) in
    let does : Does old (family.Edit (Kind number Always)) new [] = record {
      allowed = there_edited (is_some (switch_numbered c number)) faulty;
      effect = (refl, refl);
    } in
    record { start = new; begins = (new, does, refl); ready = one_done c kept (family.Edit (Kind number Always)) new is does }
has_start c kept (Some (Stuck node state)) is faulty =
    let old = start_with c kept in
    let name = called c node in
    let found = called_found c node is faulty.0 faulty.1 in
    let mid : SessionData = with_circuit old (with_input c node) in
    let item : List ℕ × Value = (name, Letter state) in
    let new : SessionData = record mid { state = state_given mid (Set (item ∷ [])) } in
    let inputs : Does old (family.Edit (Input (name ∷ []))) mid [] = record {
      allowed = input_allowed c name node faulty.0 found;
      effect = (ap (with_circuit old) (sym (input_made c name node found)), refl);
    } in
    let sets : Does mid (family.Give (Set (item ∷ []))) new [] = record {
      allowed = set_allowed c name node state faulty.0 faulty.1 found;
      effect = (refl, refl);
    } in
    record {
      start = new;
      begins = (mid, inputs, (new, sets, refl));
      ready = ready-does mid new (family.Give (Set (item ∷ []))) [] (one_done c kept (family.Edit (Input (name ∷ []))) mid is inputs) sets;
    }
