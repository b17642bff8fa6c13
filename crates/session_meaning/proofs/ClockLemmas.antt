-- Clocks that aren't refused have the same number of places, one at least; those of a `cycle` that isn't refused have input nodes.
use Rattle.std.proofs.Common.{◌≡◌, ◌≢◌, ℕ, ◌<◌, Bool, true, false, List, [], ◌∷◌, length, map, All, Option, Some, None, refl, arith}
use Rattle.std.specs.Prelude.{◌==◌, if◌then◌else◌}
use Rattle.std.proofs.lemmas.Bool.Decides.{nat_tests}
use Rattle.std.proofs.lemmas.List.Elements.{All-head, All-weaker}
use Rattle.ternary.specs.declared.tern.Tern.{Tern}
use Rattle.strength_order.specs.declared.TheConstants.{INPUT_LEVEL}
use Rattle.switch_paths.specs.Graphs.{level_of, nodes}
use Rattle.switch_paths.specs.Rails.{IsSound}
use Rattle.netlist.specs.Names.{node_of}
use Rattle.netlist.specs.Circuits.{CircuitData}
use Rattle.script_lang.specs.Forms.{AreBeats}
use Rattle.line_words.specs.Visible.{IsVisibleName}
use Rattle.group_text.specs.Texts.{GroupTextData}
use Rattle.session_meaning.specs.declared.fault.Refusal.TheVariants.{ClockLength, NotInput}
use Rattle.session_meaning.specs.Sessions.{SessionData, ClockData, IsSession, places_of, have_places}
use Rattle.session_meaning.specs.Refusals.{first_refusal, clock_refusal, cycle_refusal, is_input, length_refusal, set_refusal}
use Rattle.session_meaning.specs.Effects.{clock_of}
use Rattle.session_meaning.proofs.RefusalLemmas.{first_refusal-none, none_of_all}
use Rattle.session_meaning.proofs.StateLemmas.{set_past, clocks_past}

-- a number is itself
same_number : (count : ℕ) → (count == count) ≡ true
same_number count = grind (arith, nat_tests)

-- a clock that isn't refused has so many places
one_even : (count places : ℕ) → (if places == count then None else Some ClockLength) ≡ None → (places == count) ≡ true
one_even count places none = by (places == count) none
  where
    by : (same : Bool) → (if same then None else Some ClockLength) ≡ None → same ≡ true
    by true none = refl
    by false none = absurd (cc)

-- clocks that aren't refused after a first have as many places as that
others_even : (c : CircuitData) (count : ℕ) (others : List (List ℕ × List Tern)) →
    first_refusal (λ other. if length other.1 == count then None else Some ClockLength) others ≡ None →
    have_places count (map (clock_of c) others) ≡ true
others_even c count [] none = refl
others_even c count (item ∷ others) none =
    let both = first_refusal-none (λ (other : List ℕ × List Tern). if length other.1 == count then None else Some ClockLength) item others none in
    rw (one_even count (length item.1) both.0) (others_even c count others both.1)

-- clocks that aren't refused have the same number of places
pub even_places : (c : CircuitData) (list : List (List ℕ × List Tern)) → length_refusal list ≡ None →
    have_places (places_of (map (clock_of c) list)) (map (clock_of c) list) ≡ true
even_places c [] none = refl
even_places c (item ∷ others) none = rw (same_number (length item.1)) (others_even c (length item.1) others none)

-- and one at least
pub some_places : (c : CircuitData) (list : List (List ℕ × List Tern)) → AreBeats list → map (clock_of c) list ≢ [] →
    0 < places_of (map (clock_of c) list)
some_places c [] formed some = absurd (some refl)
some_places c (item ∷ others) formed some =
    let first = All-head (λ (other : List ℕ × List Tern). IsVisibleName other.0 × (0 < length other.1)) item others formed.1 in first.1

-- a session stays one where such clocks take the place of others
pub IsSession-clocks : (session : SessionData) (list : List (List ℕ × List Tern)) (clocks : List ClockData) → AreBeats list → length_refusal list ≡ None →
    first_refusal (λ item. set_refusal session.circuit (node_of session.circuit.names item.0)) list ≡ None →
    clocks ≡ map (clock_of session.circuit) list → All (λ (clock : ClockData). clock.node < nodes session.circuit.graph) clocks →
    IsSession session → IsSession (record session { clocks = clocks })
IsSession-clocks session list clocks formed even none same within is = record {
  ready = record {
    netlist = is.ready.netlist;
    states = is.ready.states;
    sound = is.ready.sound;
    free = rw same (clocks_past session.circuit list (set_past session.circuit list none));
    saved = is.ready.saved;
  };
  watched = is.watched;
  few = is.few;
  clocks = within;
  places = rw same (even_places session.circuit list even);
  some = rw same (some_places session.circuit list formed);
  vectors = is.vectors;
  low = is.low;
  high = is.high;
}

-- so it does where other sound states, one a node, take the place of its own, and other counts and texts
pub IsSession-beside : (session : SessionData) (state : List Tern) (count : ℕ) (missed : Bool) (bound : Option ℕ) (kept : List GroupTextData) (fresh : ℕ) →
    length state ≡ nodes session.circuit.graph → IsSound state → IsSession session →
    IsSession (record session { state = state; count = count; missed = missed; bound = bound; kept = kept; fresh = fresh })
IsSession-beside session state count missed bound kept fresh known sound is = record {
  ready = record { netlist = is.ready.netlist; states = known; sound = sound; free = is.ready.free; saved = is.ready.saved };
  watched = is.watched;
  few = is.few;
  clocks = is.clocks;
  places = is.places;
  some = is.some;
  vectors = is.vectors;
  low = is.low;
  high = is.high;
}

pub IsSession-state : (session : SessionData) (state : List Tern) → length state ≡ nodes session.circuit.graph → IsSound state →
    IsSession session → IsSession (record session { state = state })
IsSession-state session state known sound is =
    IsSession-beside session state session.count session.missed session.bound session.kept session.fresh known sound is

-- ---- input nodes

-- a node that is an input node by the test is one
input_level : (c : CircuitData) (node : ℕ) → is_input c node ≡ true → level_of c.graph node ≡ INPUT_LEVEL
input_level c node is = grind (arith, nat_tests)

-- clocks whose nodes aren't refused have input nodes
clock_inputs : (c : CircuitData) (clocks : List ClockData) → first_refusal (clock_refusal c) clocks ≡ None →
    All (λ clock. level_of c.graph clock.node ≡ INPUT_LEVEL) clocks
clock_inputs c clocks none =
    All-weaker (λ (clock : ClockData). clock_refusal c clock ≡ None) (λ clock. level_of c.graph clock.node ≡ INPUT_LEVEL) one clocks
    (none_of_all (clock_refusal c) clocks none)
  where
    by : (node : ℕ) (input : Bool) → is_input c node ≡ input → (if input then None else Some NotInput) ≡ None → level_of c.graph node ≡ INPUT_LEVEL
    by node true is none = input_level c node is
    by node false is none = absurd (cc)

    one : (clock : ClockData) → clock_refusal c clock ≡ None → level_of c.graph clock.node ≡ INPUT_LEVEL
    one clock none = by clock.node (is_input c clock.node) refl none

-- so have those of a `cycle` that isn't refused
pub cycle_inputs : (c : CircuitData) (clocks : List ClockData) → cycle_refusal c clocks ≡ None → All (λ clock. level_of c.graph clock.node ≡ INPUT_LEVEL) clocks
cycle_inputs c [] none = absurd (cc)
cycle_inputs c (clock ∷ clocks) none = clock_inputs c (clock ∷ clocks) none
