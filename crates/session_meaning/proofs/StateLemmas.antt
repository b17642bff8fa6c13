-- What commands and steps do to the states, one after another, and what they keep: their number, and the states of the rails.
-- The plan: commands set no rail, and a step and a joining step leave an input node as it is.
use Rattle.std.proofs.Common.{◌≡◌, ℕ, zero, suc, ◌+◌, ◌<◌, ◌≤◌, All, List, [], ◌∷◌, length, map, get_or, drop, nat_lt, Bool, true, false, Option, None, Some, unwrap_or, refl, sym, ap, ◌∙◌, inl, inr, arith}
use Rattle.std.specs.Prelude.{slice_set, if◌then◌else◌}
use Rattle.std.proofs.lemmas.List.{length-set, get_or-set_other, drop_more}
use Rattle.std.proofs.lemmas.List.Elements.{All-nil, All-cons, All-head, All-tail, All-weaker}
use Rattle.std.proofs.lemmas.Bool.Decides.{nat_tests}
use Rattle.ternary.specs.declared.tern.Tern.{Tern}
use Rattle.ternary.specs.declared.tern.Tern.TheVariants.{Zero}
use Rattle.switch_paths.specs.declared.TheConstants.{GND, VDD, RAILS}
use Rattle.switch_paths.specs.Graphs.{GraphData, nodes}
use Rattle.switch_paths.specs.Rails.{IsSound}
use Rattle.switch_paths.specs.Switching.{state_at}
use Rattle.switch_paths.specs.Step.{IsStep}
use Rattle.settling.specs.Settling.{Stepping, Joining, IsJoinStep, Settles}
use Rattle.switch_paths.proofs.InputNodes.{input_response}
use Rattle.switch_paths.proofs.UniqueSteps.{response_is_unique}
use Rattle.netlist.specs.Names.{node_of}
use Rattle.netlist.specs.Circuits.{CircuitData, IsCircuit}
use Rattle.netlist.specs.Edits.{node_named}
use Rattle.session_meaning.specs.declared.fault.Refusal.{Refusal}
use Rattle.session_meaning.specs.declared.fault.Refusal.TheVariants.{Rail, NotInput}
use Rattle.session_meaning.specs.Sessions.{ClockData}
use Rattle.session_meaning.specs.Refusals.{first_refusal, set_refusal, is_input}
use Rattle.session_meaning.specs.Effects.{assigned, clock_of, states_with}
use Rattle.session_meaning.proofs.RefusalLemmas.{none_of_all}

-- ---- one more of them

-- one more assignment is done
pub assigned-more : (list : List (ℕ × Tern)) (place : ℕ) (pair : ℕ × Tern) (state new : List Tern) → place < length list →
    pair ≡ get_or list place pair → new ≡ slice_set state pair.0 pair.1 → assigned new (drop (place + 1) list) ≡ assigned state (drop place list)
assigned-more list place pair state new inside is set =
    ap (λ (now : List Tern). assigned now (drop (place + 1) list)) set
    ∙ sym (ap (assigned state) (drop_more list place pair inside)
    ∙ ap (λ (first : ℕ × Tern). assigned state (first ∷ drop (place + 1) list)) (sym is))

-- one more clock is put
pub states_with-more : (clocks : List ClockData) (k place : ℕ) (clock : ClockData) (state new : List Tern) → k < length clocks →
    clock ≡ get_or clocks k clock → new ≡ slice_set state clock.node (state_at clock.states place) →
    states_with (drop (k + 1) clocks) place new ≡ states_with (drop k clocks) place state
states_with-more clocks k place clock state new inside is set =
    ap (λ (now : List Tern). states_with (drop (k + 1) clocks) place now) set
    ∙ sym (ap (λ (left : List ClockData). states_with left place state) (drop_more clocks k clock inside)
    ∙ ap (λ (first : ClockData). states_with (first ∷ drop (k + 1) clocks) place state) (sym is))

-- ---- their number

-- assignments keep the number of states
pub length-assigned : (list : List (ℕ × Tern)) (state : List Tern) → length (assigned state list) ≡ length state
length-assigned [] state = refl
length-assigned (pair ∷ list) state = length-assigned list (slice_set state pair.0 pair.1) ∙ length-set state pair.0 pair.1

-- so do clocks
pub length-states_with : (clocks : List ClockData) (place : ℕ) (state : List Tern) → length (states_with clocks place state) ≡ length state
length-states_with [] place state = refl
length-states_with (clock ∷ clocks) place state =
    length-states_with clocks place (slice_set state clock.node (state_at clock.states place)) ∙ length-set state clock.node (state_at clock.states place)

-- so do plain replacements
length-stepping : (g : GraphData) (limit : ℕ) (old : List Tern) (count : ℕ) (new : List Tern) → length old ≡ nodes g → Stepping g limit old count new → length new ≡ nodes g
length-stepping g zero old count new known (none, same) = rw same known
length-stepping g (suc left) old count new known (next, step, inl rests) = rw rests.2 known
length-stepping g (suc left) old count new known (next, step, inr goes) = length-stepping g left next goes.1.0 new step.count goes.1.2

-- and joining ones
length-joining : (g : GraphData) (count : ℕ) (old new : List Tern) → length old ≡ nodes g → Joining g old count new → length new ≡ nodes g
length-joining g zero old new known (step, same) = rw same known
length-joining g (suc count) old new known (next, step, changed, goes) = length-joining g count next new (step.joins.left ∙ known) goes

-- and so does settling
pub length-settles : (g : GraphData) (old : List Tern) (limit : ℕ) (new : List Tern) (steps : ℕ) (joined : Bool) → length old ≡ nodes g →
    Settles g old limit new steps joined → length new ≡ nodes g
length-settles g old limit new steps joined known settles =
    length-joining g settles.second settles.mid new (length-stepping g limit old settles.first settles.mid known settles.stepping) settles.joining

-- ---- the rails

-- where a node past the rails is set, they keep their states
pub sound-set : (state : List Tern) (node : ℕ) (value : Tern) → RAILS ≤ node → IsSound state → IsSound (slice_set state node value)
sound-set state node value past sound = record {
  gnd = get_or-set_other state node GND value Zero (λ same. absurd (omega arith)) ∙ sound.gnd;
  vdd = get_or-set_other state node VDD value Zero (λ same. absurd (omega arith)) ∙ sound.vdd;
}

-- a node that isn't refused as a rail is none
pub past_rails : (node : ℕ) (other : Option Refusal) → (if nat_lt node RAILS then Some Rail else other) ≡ None → RAILS ≤ node
past_rails node other none = by (nat_lt node RAILS) refl none
  where
    by : (rail : Bool) → nat_lt node RAILS ≡ rail → (if rail then Some Rail else other) ≡ None → RAILS ≤ node
    by true is none = absurd (cc)
    by false is none = grind (arith, nat_tests)

-- nor is one that is set
past_set : (c : CircuitData) (found : Option ℕ) → set_refusal c found ≡ None → RAILS ≤ unwrap_or found 0
past_set c None none = absurd (cc)
past_set c (Some node) none = past_rails node (if is_input c node then None else Some NotInput) none

-- so are all of a list that is set
pub set_past : {V : Type 0} (c : CircuitData) (list : List (List ℕ × V)) → first_refusal (λ item. set_refusal c (node_of c.names item.0)) list ≡ None →
    All (λ item. RAILS ≤ node_named c item.0) list
set_past {V} c list none =
    All-weaker (λ (item : List ℕ × V). set_refusal c (node_of c.names item.0) ≡ None) (λ item. RAILS ≤ node_named c item.0)
    (λ item. past_set c (node_of c.names item.0)) list (none_of_all (λ item. set_refusal c (node_of c.names item.0)) list none)

-- the clocks of names past the rails have such nodes
pub clocks_past : (c : CircuitData) (list : List (List ℕ × List Tern)) → All (λ item. RAILS ≤ node_named c item.0) list →
    All (λ clock. RAILS ≤ clock.node) (map (clock_of c) list)
clocks_past c [] past = All-nil (λ (clock : ClockData). RAILS ≤ clock.node)
clocks_past c (item ∷ list) past =
    All-cons (λ (clock : ClockData). RAILS ≤ clock.node) (clock_of c item) (map (clock_of c) list)
    (All-head (λ (other : List ℕ × List Tern). RAILS ≤ node_named c other.0) item list past)
    (clocks_past c list (All-tail (λ (other : List ℕ × List Tern). RAILS ≤ node_named c other.0) item list past))

-- assignments past the rails keep a state sound
pub sound-assigned : (list : List (ℕ × Tern)) (state : List Tern) → All (λ pair. RAILS ≤ pair.0) list → IsSound state →
    IsSound (assigned state list)
sound-assigned [] state past sound = sound
sound-assigned (pair ∷ list) state past sound =
    sound-assigned list (slice_set state pair.0 pair.1) (All-tail (λ (other : ℕ × Tern). RAILS ≤ other.0) pair list past)
    (sound-set state pair.0 pair.1 (All-head (λ (other : ℕ × Tern). RAILS ≤ other.0) pair list past) sound)

-- so do clocks
pub sound-states_with : (clocks : List ClockData) (place : ℕ) (state : List Tern) → All (λ clock. RAILS ≤ clock.node) clocks → IsSound state →
    IsSound (states_with clocks place state)
sound-states_with [] place state past sound = sound
sound-states_with (clock ∷ clocks) place state past sound =
    sound-states_with clocks place (slice_set state clock.node (state_at clock.states place))
    (All-tail (λ (other : ClockData). RAILS ≤ other.node) clock clocks past)
    (sound-set state clock.node (state_at clock.states place) (All-head (λ (other : ClockData). RAILS ≤ other.node) clock clocks past) sound)

-- so does a unit step
pub sound-step : (c : CircuitData) → IsCircuit c → (old new : List Tern) → IsStep c.graph old new → IsSound old → IsSound new
sound-step c is old new step sound =
    let gnd : GND < nodes c.graph = omega (arith, is.railed) in
    let vdd : VDD < nodes c.graph = omega (arith, is.railed) in record {
      gnd = response_is_unique c.graph old GND (state_at new GND) (state_at old GND) (step.each GND gnd)
          (input_response c.graph is.wired old GND gnd is.gnd) ∙ sound.gnd;
      vdd = response_is_unique c.graph old VDD (state_at new VDD) (state_at old VDD) (step.each VDD vdd)
          (input_response c.graph is.wired old VDD vdd is.vdd) ∙ sound.vdd;
    }

-- so does a joining step
sound-joined : (c : CircuitData) → IsCircuit c → (old new : List Tern) → length old ≡ nodes c.graph → IsJoinStep c.graph old new → IsSound old → IsSound new
sound-joined c is old new known step sound =
    let response = sound-step c is old step.response step.step sound in
    let gnd : GND < length new = omega (arith, step.joins.left, is.railed) in
    let vdd : VDD < length new = omega (arith, step.joins.left, is.railed) in record {
      gnd = step.joins.each GND gnd ∙ rw (sound.gnd, response.gnd) refl;
      vdd = step.joins.each VDD vdd ∙ rw (sound.vdd, response.vdd) refl;
    }

-- so do plain replacements
sound-stepping : (c : CircuitData) → IsCircuit c → (limit : ℕ) (old : List Tern) (count : ℕ) (new : List Tern) → Stepping c.graph limit old count new →
    IsSound old → IsSound new
sound-stepping c is zero old count new (none, same) sound = rw same sound
sound-stepping c is (suc left) old count new (next, step, inl rests) sound = rw rests.2 sound
sound-stepping c is (suc left) old count new (next, step, inr goes) sound =
    sound-stepping c is left next goes.1.0 new goes.1.2 (sound-step c is old next step sound)

-- and joining ones
sound-joining : (c : CircuitData) → IsCircuit c → (count : ℕ) (old new : List Tern) → length old ≡ nodes c.graph → Joining c.graph old count new →
    IsSound old → IsSound new
sound-joining c is zero old new known (step, same) sound = rw same sound
sound-joining c is (suc count) old new known (next, step, changed, goes) sound =
    sound-joining c is count next new (step.joins.left ∙ known) goes (sound-joined c is old next known step sound)

-- and so does settling
pub sound-settles : (c : CircuitData) → IsCircuit c → (old : List Tern) (limit : ℕ) (new : List Tern) (steps : ℕ) (joined : Bool) →
    length old ≡ nodes c.graph → Settles c.graph old limit new steps joined → IsSound old → IsSound new
sound-settles c is old limit new steps joined known settles sound =
    sound-joining c is settles.second settles.mid new (length-stepping c.graph limit old settles.first settles.mid known settles.stepping) settles.joining
    (sound-stepping c is limit old settles.first settles.mid settles.stepping sound)
