-- Each entry of a row of a trace has a name: the watch list only grows, and each row has one value for each entry of its moment.
use Rattle.std.proofs.Common.{◌≡◌, ◌≢◌, ℕ, ◌≤◌, ◌<◌, if◌then◌else◌, Bool, true, false, List, [], ◌∷◌, ◌++◌, length, map, get_or, slice_get, All, Option, Some, None, IfSome, refl, sym, ap, subst, ◌∙◌, arith, length-append}
use Rattle.std.specs.Prelude.{◌==◌, filter_map, flat_map, option_map}
use Rattle.std.specs.List.{list_all}
use Rattle.std.proofs.lemmas.List.{length-map}
use Rattle.std.proofs.lemmas.List.Elements.{All-nil, All-cons, All-append, All-head, All-tail, All-weaker, All-get_or}
use Rattle.std.proofs.lemmas.Option.{slice_get_within, slice_get-get_or, get_or_from_slice_get}
use Rattle.ternary.specs.declared.tern.Tern.{Tern}
use Rattle.switch_paths.specs.Switching.{state_at}
use Rattle.switch_paths.specs.declared.switching.Switch.{Switch}
use Rattle.netlist.specs.Circuits.{CircuitData, called}
use Rattle.netlist.specs.Edits.{node_named}
use Rattle.vector_values.specs.Values.{Letter}
use Rattle.script_lang.specs.declared.value.Value.{Value}
use Rattle.node_values.specs.Givings.{letters_given}
use Rattle.session_meaning.specs.Refusals.{all_named}
use Rattle.group_text.specs.Texts.{GroupTextData}
use Rattle.script_lang.specs.declared.command.Command.{Command}
use Rattle.script_lang.specs.declared.command.Command.TheVariants as family
use Rattle.script_lang.specs.declared.command.Setup.{Setup}
use Rattle.script_lang.specs.declared.command.Setup.TheVariants.{Watch}
use Rattle.script_lang.specs.declared.command.Run.{Run}
use Rattle.script_lang.specs.declared.command.Run.TheVariants.{Step, Phase, Cycle, Report}
use Rattle.script_lang.specs.declared.command.Tell.{Tell}
use Rattle.script_lang.specs.declared.command.Tell.TheVariants.{Expect, Show, Look}
use Rattle.session_meaning.specs.Sessions.{SessionData, places_of}
use Rattle.session_meaning.specs.Preparing.{BuildsIf, builds}
use Rattle.told_lines.specs.Lines.{Line, Wave, Unmet, Shown, Looked, AtEnd, AtGate, Reported, Refused}
use Rattle.told_lines.specs.Noting.{rows_of, states_of}
use Rattle.session_meaning.specs.Effects.{Effect, RunEffect, IsPhase, AreBeats, setup_after, told_by, with_beat, places_in, wave_by, is_met, letters_in, shown_line, unmet_line, unmet_lines}
use Rattle.node_looks.specs.Looks.{other_end, at_end, at_gate, end_line, gate_line, numbered, node_line, end_lines, gate_lines, looked_lines}
use Rattle.session_meaning.specs.Outcomes.{Performs}
use Rattle.script_meaning.specs.Runs.{Reading, Outcome, Runs, ends, passes, obeys, refuses}
use Rattle.fault_sim.specs.declared.fault.Fault.{Fault}
use Rattle.fault_sim.specs.Traces.{Trace}
use Rattle.fault_meaning.specs.Traces.{IsTrace}

-- a waveform line has no more values than so many
abbrev FitsIn : ℕ → Line → Type 0
FitsIn most (Wave n k mark values) = length values ≤ most
FitsIn most (Unmet name want got n) = Unit {0}
FitsIn most (Shown name values) = Unit {0}
FitsIn most (Looked name state sort) = Unit {0}
FitsIn most (AtEnd switch gate gate_state end end_state) = Unit {0}
FitsIn most (AtGate switch source source_state drain drain_state) = Unit {0}
FitsIn most (Reported groups texts new) = Unit {0}
FitsIn most (Refused place code name count) = Unit {0}

-- the watch list grew, and no line has more values than it has entries
record AreFitting (old new : SessionData) (lines : List Line) : Type 0 where
  grows : length old.watched ≤ length new.watched
  fit : All (FitsIn (length new.watched)) lines

module _ (some most : ℕ) (low : some ≤ most) where
  wider : (line : Line) → FitsIn some line → FitsIn most line
  wider (Wave n k mark values) fits = omega (arith, fits, low)
  wider (Unmet name want got n) fits = tt
  wider (Shown name values) fits = tt
  wider (Looked name state sort) fits = tt
  wider (AtEnd switch gate gate_state end end_state) fits = tt
  wider (AtGate switch source source_state drain drain_state) fits = tt
  wider (Reported groups texts new) fits = tt
  wider (Refused place code name count) fits = tt

  all_wider : (lines : List Line) → All (FitsIn some) lines → All (FitsIn most) lines
  all_wider lines all = All-weaker (FitsIn some) (FitsIn most) wider lines all

still_fitting : (old new : SessionData) (lines : List Line) → new.watched ≡ old.watched → lines ≡ [] → AreFitting old new lines
still_fitting old new lines same none =
    let long : length new.watched ≡ length old.watched = ap length same in
    record { grows = omega (arith, long); fit = subst (All (FitsIn (length new.watched))) (sym none) (All-nil (FitsIn (length new.watched))) }

wave_fitting : (old new : SessionData) (lines : List Line) (k : ℕ) (mark : Bool) → new.watched ≡ old.watched → lines ≡ wave_by new k mark ∷ [] →
    AreFitting old new lines
wave_fitting old new lines k mark same wrote =
    let long : length new.watched ≡ length old.watched = ap length same in
    let values : length (map (state_at new.state) new.watched) ≡ length new.watched = length-map new.watched (state_at new.state) in
    record {
      grows = omega (arith, long);
      fit = subst (All (FitsIn (length new.watched))) (sym wrote)
          (All-cons (FitsIn (length new.watched)) (wave_by new k mark) [] (omega (arith, values)) (All-nil (FitsIn (length new.watched))));
    }

phase_fitting : (old new : SessionData) (lines : List Line) → IsPhase old new lines → AreFitting old new lines
phase_fitting old new lines phase =
    wave_fitting old new lines phase.steps phase.joined (ap (λ (session : SessionData). session.watched) phase.moved) phase.wrote

both_fitting : (old mid new : SessionData) (front back : List Line) → AreFitting old mid front → AreFitting mid new back → AreFitting old new (front ++ back)
both_fitting old mid new front back first second = record {
  grows = omega (arith, first.grows, second.grows);
  fit = All-append (FitsIn (length new.watched)) front back (all_wider (length mid.watched) (length new.watched) second.grows front first.fit) second.fit;
}

beats_fitting : (places : List ℕ) (old new : SessionData) (lines : List Line) → AreBeats old places new lines → AreFitting old new lines
beats_fitting [] old new lines beats = still_fitting old new lines (ap (λ (session : SessionData). session.watched) beats.0) beats.1
beats_fitting (place ∷ places) old new lines (mid, front, back, phase, beats, joined) =
    let first = phase_fitting (with_beat old place) mid front phase in
    subst (AreFitting old new) (sym joined)
    (both_fitting old mid new front back (record { grows = first.grows; fit = first.fit }) (beats_fitting places mid new back beats))

-- what each given value has, all of them have
All-filter_map : {X Y : Type 0} (P : Y → Type 0) (h : X → Option Y) → ((x : X) (y : Y) → h x ≡ Some y → P y) → (xs : List X) → All P (filter_map h xs)
All-filter_map P h each [] = All-nil P
All-filter_map {X} {Y} P h each (x ∷ xs) = by (All-filter_map P h each xs) (h x) refl
  where
    by : All P (filter_map h xs) → (given : Option Y) → h x ≡ given → All P (filter_map h (x ∷ xs))
    by rest None is = rw is rest
    by rest (Some y) is = rw is (All-cons P y (filter_map h xs) (each x y is) rest)

-- the lines of expectations have no values
unmet_fitting : (most : ℕ) (session : SessionData) (list : List (List ℕ × Value)) → All (FitsIn most) (unmet_lines session list)
unmet_fitting most session list = All-filter_map (FitsIn most) (unmet_line session) each list
  where
    no_wave : (met : Bool) (name : List ℕ) (want : List Letter) (got : List Tern) (count n k : ℕ) (mark : Bool) (values : List Tern) →
        (if met then None else Some (Unmet name want got count)) ≢ Some (Wave n k mark values)
    no_wave true name want got count n k mark values is = absurd (cc)
    no_wave false name want got count n k mark values is = absurd (cc)

    each : (item : List ℕ × Value) (line : Line) → unmet_line session item ≡ Some line → FitsIn most line
    each item (Wave n k mark values) is =
        let pairs = letters_in (letters_given session.circuit session.vectors item) in
        absurd (no_wave (list_all (λ pair. is_met pair.1 (state_at session.state pair.0)) pairs) item.0 (map (λ pair. pair.1) pairs)
        (map (λ pair. state_at session.state pair.0) pairs) session.count n k mark values is)
    each item (Unmet name want got n) is = tt
    each item (Shown name values) is = tt
    each item (Looked name state sort) is = tt
    each item (AtEnd switch gate gate_state end end_state) is = tt
    each item (AtGate switch source source_state drain drain_state) is = tt
    each item (Reported groups texts new) is = tt
    each item (Refused place code name count) is = tt

set_fitting : (old new : SessionData) (setup : Setup) (lines : List Line) → new ≡ setup_after old setup → lines ≡ [] → AreFitting old new lines
set_fitting old new (Watch names) lines same none =
    let long : length new.watched ≡ length (old.watched ++ all_named old.circuit old.vectors names) =
    ap (λ (session : SessionData). length session.watched) same in
    record {
      grows = omega (arith, long, length-append old.watched (all_named old.circuit old.vectors names));
      fit = subst (All (FitsIn (length new.watched))) (sym none) (All-nil (FitsIn (length new.watched)));
    }
set_fitting old new other lines same none = still_fitting old new lines (ap (λ (session : SessionData). session.watched) same) none

run_fitting : (old new : SessionData) (run : Run) (lines : List Line) → RunEffect old run new lines → AreFitting old new lines
run_fitting old new Step lines effect =
    wave_fitting old new lines 1 false (ap (λ (session : SessionData). session.watched) effect.moved) effect.wrote
run_fitting old new Phase lines effect = phase_fitting old new lines effect
run_fitting old new (Cycle times) lines effect = beats_fitting (places_in (places_of old.clocks) times) old new lines effect
run_fitting old new Report lines effect =
    let long : length new.watched ≡ length old.watched = ap (λ (session : SessionData). length session.watched) effect.moved in
    record {
      grows = omega (arith, long);
      fit = subst (All (FitsIn (length new.watched))) (sym effect.wrote)
          (All-cons (FitsIn (length new.watched)) _ [] tt (All-nil (FitsIn (length new.watched))));
    }

shown_fitting : (most : ℕ) (session : SessionData) (names : List (List ℕ)) → All (FitsIn most) (map (shown_line session) names)
shown_fitting most session [] = All-nil (FitsIn most)
shown_fitting most session (name ∷ names) =
    All-cons (FitsIn most) (shown_line session name) (map (shown_line session) names) tt (shown_fitting most session names)

-- the lines of what there is at nodes have no values
end_fitting : (most : ℕ) (c : CircuitData) (state : List Tern) (node : ℕ) (entry : ℕ × Option Switch) →
    IfSome (end_line c state node entry) (FitsIn most)
end_fitting most c state node (number, None) = tt
end_fitting most c state node (number, Some switch) = by (other_end node switch)
  where
    by : (found : Option ℕ) → IfSome (option_map (at_end c state number switch) found) (FitsIn most)
    by None = tt
    by (Some other) = tt

gate_fitting : (most : ℕ) (c : CircuitData) (state : List Tern) (node : ℕ) (entry : ℕ × Option Switch) →
    IfSome (gate_line c state node entry) (FitsIn most)
gate_fitting most c state node (number, None) = tt
gate_fitting most c state node (number, Some switch) = by (switch.gate == node)
  where
    by : (met : Bool) → IfSome (if met then Some (at_gate c state number switch) else None) (FitsIn most)
    by true = tt
    by false = tt

given_fitting : (most : ℕ) (line : ℕ × Option Switch → Option Line) → ((entry : ℕ × Option Switch) → IfSome (line entry) (FitsIn most)) →
    (entries : List (ℕ × Option Switch)) → All (FitsIn most) (filter_map line entries)
given_fitting most line each entries =
    All-filter_map (FitsIn most) line (λ entry one is. subst (λ (given : Option Line). IfSome given (FitsIn most)) is (each entry)) entries

looked_fitting : (most : ℕ) (c : CircuitData) (state : List Tern) (names : List (List ℕ)) → All (FitsIn most) (flat_map (looked_lines c state) names)
looked_fitting most c state [] = All-nil (FitsIn most)
looked_fitting most c state (name ∷ names) =
    let node = node_named c name in
    All-append (FitsIn most) (looked_lines c state name) (flat_map (looked_lines c state) names)
    (All-cons (FitsIn most) (node_line c state node) (end_lines c state node ++ gate_lines c state node) tt
    (All-append (FitsIn most) (end_lines c state node) (gate_lines c state node)
    (given_fitting most (end_line c state node) (end_fitting most c state node) (numbered c))
    (given_fitting most (gate_line c state node) (gate_fitting most c state node) (numbered c))))
    (looked_fitting most c state names)

told_fitting : (most : ℕ) (session : SessionData) (tell : Tell) → All (FitsIn most) (told_by session tell)
told_fitting most session (Expect list) = unmet_fitting most session list
told_fitting most session (Show names) = shown_fitting most session names
told_fitting most session (Look names) = looked_fitting most session.circuit session.state names

effect_fitting : (old new : SessionData) (command : Command) (lines : List Line) → Effect old command new lines → AreFitting old new lines
effect_fitting old new (family.Edit edit) lines effect = still_fitting old new lines (ap (λ (session : SessionData). session.watched) effect.0) effect.1
effect_fitting old new (family.Give give) lines effect = still_fitting old new lines (ap (λ (session : SessionData). session.watched) effect.0) effect.1
effect_fitting old new (family.Setup setup) lines effect = set_fitting old new setup lines effect.0 effect.1
effect_fitting old new (family.Run run) lines effect = run_fitting old new run lines effect
effect_fitting old new (family.Tell tell) lines effect =
    let long : length new.watched ≡ length old.watched = ap (λ (session : SessionData). length session.watched) effect.0 in
    record {
      grows = omega (arith, long);
      fit = subst (All (FitsIn (length new.watched))) (sym effect.1) (told_fitting (length new.watched) old tell);
    }

built_watched : (does : Bool) (old mid : SessionData) (texts : List GroupTextData) → BuildsIf does old mid texts → mid.watched ≡ old.watched
built_watched true old mid texts build = ap (λ (session : SessionData). session.watched) build.used
built_watched false old mid texts still = ap (λ (session : SessionData). session.watched) still.0

performs_fitting : (old new : SessionData) (command : Command) (lines : List Line) (texts : List GroupTextData) → Performs old command new lines texts →
    AreFitting old new lines
performs_fitting old new command lines texts performs =
    let long : length performs.mid.watched ≡ length old.watched = ap length (built_watched (builds command) old performs.mid texts performs.prepares) in
    let done = effect_fitting performs.mid new command lines performs.does.effect in
    record { grows = omega (arith, long, done.grows); fit = done.fit }

runs_fitting : (reading : Reading) (cut : Option ℕ) (session : SessionData) (lines : List (ℕ × List ℕ)) (outcome : Outcome) →
    Runs reading cut session lines outcome → AreFitting session outcome.end outcome.lines
runs_fitting reading cut _ _ _ (ends session) = still_fitting session session [] refl refl
runs_fitting reading cut _ _ _ (passes session line lines rest idle runs) = runs_fitting reading cut session lines rest runs
runs_fitting reading cut _ _ _ (obeys session new line lines command wrote texts rest asks performs runs) =
    both_fitting session new rest.end wrote rest.lines (performs_fitting session new command wrote texts performs)
    (runs_fitting reading cut new lines rest runs)
runs_fitting reading cut _ _ _ (refuses session line lines cause is) = still_fitting session session [] refl refl

-- ---- rows

rows_fitting : (most : ℕ) (lines : List Line) → All (FitsIn most) lines → All (λ row. length row ≤ most) (states_of (rows_of lines))
rows_fitting most [] all = All-nil (λ (row : List Tern). length row ≤ most)
rows_fitting most (Wave n k mark values ∷ lines) all =
    All-cons (λ (row : List Tern). length row ≤ most) values (states_of (rows_of lines)) (All-head (FitsIn most) (Wave n k mark values) lines all)
    (rows_fitting most lines (All-tail (FitsIn most) (Wave n k mark values) lines all))
rows_fitting most (Unmet name want got n ∷ lines) all = rows_fitting most lines (All-tail (FitsIn most) (Unmet name want got n) lines all)
rows_fitting most (Shown name values ∷ lines) all = rows_fitting most lines (All-tail (FitsIn most) (Shown name values) lines all)
rows_fitting most (Looked name state sort ∷ lines) all = rows_fitting most lines (All-tail (FitsIn most) (Looked name state sort) lines all)
rows_fitting most (AtEnd switch gate gate_state end end_state ∷ lines) all =
    rows_fitting most lines (All-tail (FitsIn most) (AtEnd switch gate gate_state end end_state) lines all)
rows_fitting most (AtGate switch source source_state drain drain_state ∷ lines) all =
    rows_fitting most lines (All-tail (FitsIn most) (AtGate switch source source_state drain drain_state) lines all)
rows_fitting most (Reported groups texts new ∷ lines) all = rows_fitting most lines (All-tail (FitsIn most) (Reported groups texts new) lines all)
rows_fitting most (Refused place code name count ∷ lines) all = rows_fitting most lines (All-tail (FitsIn most) (Refused place code name count) lines all)

pub entries_named : (circuit : CircuitData) (script : List ℕ) (kept : List GroupTextData) (fault : Option Fault) (trace : Trace)
    (texts after : List GroupTextData) → IsTrace circuit script kept fault trace texts after → (row entry : ℕ) (values : List Tern) (value : Tern) →
    slice_get trace.rows row ≡ Some values → slice_get values entry ≡ Some value → (name : List ℕ) × (slice_get trace.names entry ≡ Some name)
entries_named circuit script kept fault trace texts after is row entry values value in_row in_entry =
    let outcome = is.outcome in
    let watched = outcome.end.watched in
    let fitting = runs_fitting _ _ _ _ outcome is.runs.runs in
    let rows = subst (All (λ (one : List Tern). length one ≤ length watched)) (sym is.shows.rows) (rows_fitting (length watched) outcome.lines fitting.fit) in
    let here : length (get_or trace.rows row values) ≤ length watched =
    All-get_or (λ (one : List Tern). length one ≤ length watched) trace.rows row values (slice_get_within trace.rows row values in_row) rows in
    let same : get_or trace.rows row values ≡ values = get_or_from_slice_get trace.rows row values values in_row in
    let low : entry < length values = slice_get_within values entry value in_entry in
    let long : length trace.names ≡ length watched = ap length is.shows.names ∙ length-map watched (called outcome.end.circuit) in
    let inside : length values ≤ length watched = subst (λ (one : List Tern). length one ≤ length watched) same here in
    (get_or trace.names entry [], slice_get-get_or trace.names entry [] (omega (arith, low, inside, long)))
