-- A session at its start is one, whatever it keeps.
use Rattle.std.proofs.Common.{◌≡◌, ℕ, ◌<◌, ◌≤◌, List, All, Option, None, refl, subst, sym, arith}
use Rattle.std.proofs.lemmas.List.Elements.{All-nil}
use Rattle.ternary.specs.declared.tern.Tern.{Tern}
use Rattle.switch_paths.specs.Graphs.{GraphData, nodes}
use Rattle.group_text.specs.Texts.{GroupTextData}
use Rattle.column_stage.specs.Columns.{IsSoundState}
use Rattle.column_stage.proofs.SoundLemmas.{first_of_some, some_alone, sound_alone}
use Rattle.netlist.specs.Circuits.{CircuitData, IsCircuit}
use Rattle.script_lang.specs.declared.TheConstants.{MOST_TIMES}
use Rattle.session_meaning.specs.declared.TheConstants.{FIRST_LIMIT, MOST_WATCHED}
use Rattle.session_meaning.specs.Sessions.{ClockData, IsHeldSession, IsSession, start_of}
use Rattle.session_meaning.proofs.EffectLemmas.{ready-start}

-- the data are a session's
session_start : (c : CircuitData) (kept : List GroupTextData) → IsCircuit c → IsSession (record (start_of c) { kept = kept })
session_start c kept is =
    let ready = ready-start c is in
    let few : 0 ≤ MOST_WATCHED = omega arith in
    let low : 1 ≤ FIRST_LIMIT = omega arith in
    let high : FIRST_LIMIT ≤ MOST_TIMES = omega arith in
    record {
      ready = record { netlist = ready.netlist; states = ready.states; sound = ready.sound; free = ready.free; saved = ready.saved };
      watched = All-nil (λ (node : ℕ). node < nodes c.graph);
      few = few;
      clocks = All-nil (λ (clock : ClockData). clock.node < nodes c.graph);
      places = refl;
      some = λ none. absurd (none refl);
      vectors = All-nil (λ (entry : List ℕ × List ℕ). All (λ (node : ℕ). node < nodes c.graph) entry.1);
      low = low;
      high = high;
    }

-- and they are those at the start, with what is kept, if the state is and there is no bound
pub core_start : (c : CircuitData) (state : List Tern) (bound : Option ℕ) (kept table : List GroupTextData) → state ≡ (start_of c).state → bound ≡ None →
    kept ≡ table → (record (start_of c) { state = state; bound = bound; kept = kept }) ≡ record (start_of c) { kept = table }
core_start c state bound kept table is free same = λ i. record (start_of c) { state = is i; bound = free i; kept = same i }

-- with a stage that serves, they are held
pub held_start : {M : Type 0} (columns : M → ℕ) (states : M → ℕ → List Tern) (serves : M → GraphData → List GroupTextData → Type 0) (c : CircuitData) (stage : M)
    (bound : Option ℕ) (kept : List GroupTextData) → IsCircuit c → states stage 0 ≡ (start_of c).state → bound ≡ None → columns stage ≡ 1 →
    serves stage c.graph kept →
    IsHeldSession columns states serves (record { core = record (start_of c) { state = states stage 0; bound = bound; kept = kept }; stage = stage })
held_start columns states serves c stage bound kept is state free one serving =
    let ready = ready-start c is in record {
      core = subst IsSession (sym (core_start c (states stage 0) bound kept kept state free refl)) (session_start c kept is);
      some = some_alone (columns stage) one;
      sound = sound_alone c.graph (columns stage) (states stage) one
          (subst (λ (start : List Tern). IsSoundState c.graph start) (sym state) (record { counted = ready.states; sound = ready.sound }));
      same = refl;
      served = serving;
    }

-- so they are with one column or more, all at the start
pub held_over : {M : Type 0} (columns : M → ℕ) (states : M → ℕ → List Tern) (serves : M → GraphData → List GroupTextData → Type 0) (c : CircuitData) (stage : M)
    (bound : Option ℕ) (kept : List GroupTextData) → IsCircuit c → 1 ≤ columns stage →
    ((column : ℕ) → column < columns stage → states stage column ≡ (start_of c).state) → bound ≡ None → serves stage c.graph kept →
    IsHeldSession columns states serves (record { core = record (start_of c) { state = states stage 0; bound = bound; kept = kept }; stage = stage })
held_over columns states serves c stage bound kept is some state free serving =
    let ready = ready-start c is in
    let first : states stage 0 ≡ (start_of c).state = state 0 (first_of_some (columns stage) some) in
    record {
      core = subst IsSession (sym (core_start c (states stage 0) bound kept kept first free refl)) (session_start c kept is);
      some = some;
      sound = λ column inside.
          subst (λ (start : List Tern). IsSoundState c.graph start) (sym (state column inside)) (record { counted = ready.states; sound = ready.sound });
      same = refl;
      served = serving;
    }
