-- The data of a session: what commands read and change.
use Rattle.std.specs.Prelude.{◌≡◌, ◌≢◌, ℕ, Bool, true, false, ◌-◌, ◌<◌, ◌≤◌, ◌==◌, List, [], ◌∷◌, length, replicate, All, Option, None}
use Rattle.std.specs.List.{list_all}
use Rattle.ternary.specs.declared.tern.Tern.{Tern}
use Rattle.ternary.specs.declared.tern.Tern.TheVariants.{Zero, One, Unk}
use Rattle.switch_paths.specs.Graphs.{GraphData, nodes}
use Rattle.switch_paths.specs.Rails.{IsSound}
use Rattle.switch_paths.specs.declared.TheConstants.{RAILS}
use Rattle.group_text.specs.Texts.{GroupTextData}
use Rattle.netlist.specs.Circuits.{CircuitData, IsCircuit}
use Rattle.script_lang.specs.declared.TheConstants.{MOST_TIMES}
use Rattle.session_meaning.specs.declared.TheConstants.{MOST_WATCHED, FIRST_LIMIT}
use Rattle.column_stage.specs.Columns.{AreSound}
use Rattle.node_words.specs.Vectors.{AreWithin}
use Rattle.session_meaning.specs.Saves.{AreSaves}

-- a clock: a node, and its states at the places of a cycle
pub record ClockData : Type 0 where
  pub node : ℕ
  pub states : List Tern

-- the circuit, the state of its nodes, the nodes that are watched, the clocks, the limit of a phase, how many waveform lines there
-- were, whether some `expect` was not met, the names of vectors, with their nodes, the names under which states are kept, with these, the
-- bound on the number of texts that are kept, if there is one, how many members a group without a text may have (with 0 there may be none),
-- the texts of groups whose analyses are kept, the most recently used first, and how many were analysed since the last report
pub record SessionData : Type 0 where
  pub circuit : CircuitData
  pub state : List Tern
  pub watched : List ℕ
  pub clocks : List ClockData
  pub limit : ℕ
  pub count : ℕ
  pub missed : Bool
  pub vectors : List (List ℕ × List ℕ)
  pub saves : List (List ℕ × List Tern)
  pub bound : Option ℕ
  pub large : ℕ
  pub kept : List GroupTextData
  pub fresh : ℕ

-- a session: its data, and the stage that moves its state
pub record HeldSession (M : Type 0) : Type 0 where
  pub core : SessionData
  pub stage : M

-- at the start Gnd is 0, Vdd is 1 and every other node X; nothing is watched, there are no clocks, nothing was missed, nothing is kept,
-- there is no bound on that, and a group without a text is refused
abbrev pub start_of : CircuitData → SessionData
start_of circuit = record {
  circuit = circuit;
  state = Zero ∷ One ∷ replicate (nodes circuit.graph - RAILS) Unk;
  watched = [];
  clocks = [];
  limit = FIRST_LIMIT;
  count = 0;
  missed = false;
  vectors = [];
  saves = [];
  bound = None;
  large = 0;
  kept = [];
  fresh = 0;
}

-- how many places a cycle of these clocks has
abbrev pub places_of : List ClockData → ℕ
places_of [] = 0
places_of (clock ∷ clocks) = length clock.states

-- each clock has so many places
abbrev pub have_places : ℕ → List ClockData → Bool
have_places count clocks = list_all (λ clock. length clock.states == count) clocks

-- the circuit is one, there is one state for each node, the rails have theirs, also in the states that are kept, and no clock's node is a
-- rail: so each command has an outcome, after which the rails have their states still
pub record IsReady (session : SessionData) : Type 0 where
  pub netlist : IsCircuit session.circuit
  pub states : length session.state ≡ nodes session.circuit.graph
  pub sound : IsSound session.state
  pub free : All (λ clock. RAILS ≤ clock.node) session.clocks
  pub saved : AreSaves (nodes session.circuit.graph) session.saves

-- the session is ready; each watched node is a node, and so is each clock's and each of a vector; the watched nodes are few, the limit is
-- within its range, and all clocks have the same number of places, one at least
pub record IsSession (session : SessionData) : Type 0 where
  pub ready : IsReady session
  pub watched : All (λ node. node < nodes session.circuit.graph) session.watched
  pub few : length session.watched ≤ MOST_WATCHED
  pub clocks : All (λ clock. clock.node < nodes session.circuit.graph) session.clocks
  pub places : have_places (places_of session.clocks) session.clocks ≡ true
  pub some : session.clocks ≢ [] → 0 < places_of session.clocks
  pub vectors : AreWithin (nodes session.circuit.graph) session.vectors
  pub low : 1 ≤ session.limit
  pub high : session.limit ≤ MOST_TIMES

-- the data are those of a session; the stage has a column or more, in each of which the states are sound, those of the first are the data's, and
-- it serves their circuit with what they keep
pub record IsHeldSession {M : Type 0} (columns : M → ℕ) (states : M → ℕ → List Tern) (serves : M → GraphData → List GroupTextData → Type 0)
    (session : HeldSession M) : Type 0 where
  pub core : IsSession session.core
  pub some : 1 ≤ columns session.stage
  pub sound : AreSound session.core.circuit.graph (columns session.stage) (states session.stage)
  pub same : states session.stage 0 ≡ session.core.state
  pub served : serves session.stage session.core.circuit.graph session.core.kept
