-- What a command tells, by what it is: its lines are no refusals, its steps and phases are some exactly if it moves, and its words are watched.
use Rattle.std.proofs.Common.{◌≡◌, ◌≢◌, ℕ, zero, suc, ◌<◌, ◌≤◌, Bool, true, false, ◌&&◌, ◌||◌, true≢false, List, [], ◌∷◌, ◌++◌, map, drop, length, replicate, unwrap_or, ◌-◌, Option, None, Some, refl, sym, ap, subst, ◌∙◌, arith}
use Rattle.std.specs.Prelude.{◌*◌, ◌%◌, ◌==◌, if◌then◌else◌, IfSome, option_map}
use Rattle.std.specs.List.{cons_option, filter_map, flat_map, list_all, range_with_len}
use Rattle.std.proofs.lemmas.List.{length-append, length-drop}
use Rattle.std.proofs.lemmas.Nat.{mul-le}
use Rattle.ternary.specs.declared.tern.Tern.{Tern}
use Rattle.ternary.specs.declared.tern.Tern.TheVariants.{Unk}
use Rattle.switch_paths.specs.Graphs.{GraphData, nodes}
use Rattle.switch_paths.specs.Switching.{state_at}
use Rattle.netlist.specs.Circuits.{CircuitData}
use Rattle.netlist.specs.Edits.{node_named}
use Rattle.switch_paths.specs.declared.switching.Switch.{Switch}
use Rattle.settling.specs.Passes.{Pass, state_behind}
use Rattle.group_text.specs.Texts.{GroupTextData}
use Rattle.vector_values.specs.Values.{Letter}
use Rattle.script_lang.specs.declared.command.Command.{Command}
use Rattle.script_lang.specs.declared.command.Command.TheVariants as family
use Rattle.script_lang.specs.declared.command.Give.{Give}
use Rattle.script_lang.specs.declared.command.Give.TheVariants.{Set, Charge, Back}
use Rattle.script_lang.specs.declared.command.Run.{Run}
use Rattle.script_lang.specs.declared.command.Run.TheVariants.{Step, Phase, Cycle, Report}
use Rattle.script_lang.specs.declared.command.Setup.{Setup}
use Rattle.script_lang.specs.declared.command.Setup.TheVariants as setup
use Rattle.script_lang.specs.declared.command.Tell.{Tell}
use Rattle.script_lang.specs.declared.command.Tell.TheVariants.{Expect, Show, Look}
use Rattle.script_lang.specs.Forms.{IsFormed}
use Rattle.told_lines.specs.Lines.{Line, Unmet}
use Rattle.node_looks.specs.Looks.{at_end, at_gate, end_line, end_lines, gate_line, gate_lines, looked_lines, numbered, other_end}
use Rattle.session_meaning.specs.Sessions.{SessionData, ClockData, IsSession, places_of}
use Rattle.session_meaning.specs.Effects.{AreBeats, Effect, RunEffect, circuit_after, is_met, letters_in, places_in, setup_after, shown_line, state_given, states_by, told_by, unmet_by, unmet_line}
use Rattle.session_meaning.specs.Saves.{kept_under}
use Rattle.session_meaning.specs.Outcomes.{Performs}
use Rattle.session_meaning.specs.Passing.{BeatsThrough, PassesThrough, RunThrough}
use Rattle.session_meaning.specs.Preparing.{BuildsIf, builds}
use Rattle.session_meaning.specs.Refusals.{cycle_refusal, refusal_of}
use Rattle.session_meaning.proofs.StateLemmas.{length-assigned}
use Rattle.node_values.specs.Givings.{letters_given}
use Rattle.dump_run.specs.Dumped.{IsTimely, comments, entries_asked, is_move, is_watch}
use Rattle.dump_run.proofs.SceneLemmas.{AreTold, is_refusal}

-- ---- two tests

pub and_false : (a b : Bool) → b ≡ false → (a && b) ≡ false
and_false true b is = is
and_false false b is = refl

pub or_false : (a b : Bool) → b ≡ false → a ≡ (a || b)
or_false true b is = refl
or_false false b is = sym is

pub or_true : (a b : Bool) → b ≡ true → true ≡ (a || b)
or_true true b is = refl
or_true false b is = sym is

-- a command that watches nothing is in time
pub timely_other : (begun : Bool) (command : Command) → is_watch command ≡ false → IsTimely begun command
timely_other begun command other = and_false begun (is_watch command) other

-- so is each before the first step or phase
pub timely_early : (begun : Bool) (command : Command) → begun ≡ false → IsTimely begun command
timely_early true command early = absurd (true≢false early)
timely_early false command early = refl

-- a command that moves watches nothing
pub move_other : (command : Command) → is_move command ≡ true → is_watch command ≡ false
move_other (family.Setup setting) moves = absurd (true≢false (sym moves))
move_other command moves = refl

-- nor does one that has the circuit built
pub building_other : (command : Command) → builds command ≡ true → is_watch command ≡ false
building_other (family.Setup setting) building = absurd (true≢false (sym building))
building_other command building = refl

-- a command that watches nothing has no words
pub no_words : (session : SessionData) (command : Command) → is_watch command ≡ false → entries_asked session command ≡ []
no_words session (family.Setup (setup.Watch names)) other = absurd (true≢false other)
no_words session command other = refl

-- ---- by its family

-- one that has nothing built doesn't move
pub still_by : (command : Command) → ((run : Run) → command ≢ family.Run run) → is_move command ≡ false
still_by (family.Run run) other = absurd (other run refl)
still_by command other = refl

-- nor does a report, and any other that has it built does
pub moving_run : (run : Run) → run ≢ Report → is_move (family.Run run) ≡ true
moving_run Report other = absurd (other refl)
moving_run run other = refl

-- one that sets nothing watches nothing
pub wordless_by : (command : Command) → ((setting : Setup) → command ≢ family.Setup setting) → is_watch command ≡ false
wordless_by (family.Setup setting) other = absurd (other setting refl)
wordless_by command other = refl

-- nor does one that sets something else
pub wordless_setup : (setting : Setup) → ((names : List (List ℕ)) → setting ≢ setup.Watch names) → is_watch (family.Setup setting) ≡ false
wordless_setup (setup.Watch names) other = absurd (other names refl)
wordless_setup setting other = refl

-- ---- steps and phases

-- a command that doesn't move has none
pub no_passes : (session : SessionData) (command : Command) → is_move command ≡ false → PassesThrough session command []
no_passes session (family.Run Step) still = absurd (true≢false still)
no_passes session (family.Run Phase) still = absurd (true≢false still)
no_passes session (family.Run (Cycle times)) still = absurd (true≢false still)
no_passes session command still = refl

-- the steps and phases are some
abbrev pub AreSome : List Pass → Type 0
AreSome passes = (pass : Pass) × (more : List Pass) × (passes ≡ pass ∷ more)

-- a cycle has a first place
first_place : (count times : ℕ) → 0 < count → 1 ≤ times → (place : ℕ) × (more : List ℕ) × (places_in count times ≡ place ∷ more)
first_place count times some often = by (times * count) (omega (arith, mul-le 1 count times count often (omega arith), some))
  where
    by : (all : ℕ) → 0 < all → (place : ℕ) × (more : List ℕ) × (map (λ i. i % count) (range_with_len 0 all) ≡ place ∷ more)
    by zero none = absurd (omega (arith, none))
    by (suc all) more = (0 % count, map (λ i. i % count) (range_with_len 1 all), refl)

beats_some : (g : GraphData) (clocks : List ClockData) (limit : ℕ) (places : List ℕ) (old : List Tern) (passes : List Pass) (place : ℕ) (more : List ℕ) →
    places ≡ place ∷ more → BeatsThrough g clocks limit places old passes → AreSome passes
beats_some g clocks limit [] old passes place more is through = absurd (cc)
beats_some g clocks limit (first ∷ others) old passes place more is (pass, later, phase, beats, whole) = (pass, later, whole)

-- clocks that a cycle isn't refused for
some_clocks : (c : CircuitData) (clocks : List ClockData) → cycle_refusal c clocks ≡ None → clocks ≢ []
some_clocks c [] allowed = absurd (cc)
some_clocks c (clock ∷ clocks) allowed = λ none. absurd (cc)

-- a command that moves has some
pub some_passes : (session : SessionData) (command : Command) (passes : List Pass) → IsFormed command → IsSession session →
    refusal_of session command ≡ None → is_move command ≡ true → PassesThrough session command passes → AreSome passes
some_passes session (family.Run Step) passes formed is allowed moves (pass, through, whole) = (pass, [], whole)
some_passes session (family.Run Phase) passes formed is allowed moves (pass, through, whole) = (pass, [], whole)
some_passes session (family.Run (Cycle times)) passes formed is allowed moves through =
    let places = first_place (places_of session.clocks) times (is.some (some_clocks session.circuit session.clocks allowed)) formed.0 in
    beats_some session.circuit.graph session.clocks session.limit (places_in (places_of session.clocks) times) session.state passes
    places.0 places.1 places.2 through
some_passes session (family.Run Report) passes formed is allowed moves through = absurd (true≢false (sym moves))
some_passes session (family.Edit edit) passes formed is allowed moves through = absurd (true≢false (sym moves))
some_passes session (family.Give give) passes formed is allowed moves through = absurd (true≢false (sym moves))
some_passes session (family.Setup setting) passes formed is allowed moves through = absurd (true≢false (sym moves))
some_passes session (family.Tell tell) passes formed is allowed moves through = absurd (true≢false (sym moves))

-- ---- lines

-- the lines of a command that moves are waveform lines
beats_silent : (places : List ℕ) (old new : SessionData) (lines : List Line) → AreBeats old places new lines → comments lines ≡ []
beats_silent [] old new lines (same, none) = ap comments none
beats_silent (place ∷ places) old new lines (mid, front, back, phase, beats, whole) =
    ap comments (whole ∙ ap (λ (first : List Line). first ++ back) phase.wrote) ∙ beats_silent places mid new back beats

pub silent : (old new : SessionData) (command : Command) (lines : List Line) → is_move command ≡ true → Effect old command new lines →
    comments lines ≡ []
silent old new (family.Run Step) lines moves effect = ap comments effect.wrote
silent old new (family.Run Phase) lines moves effect = ap comments effect.wrote
silent old new (family.Run (Cycle times)) lines moves effect = beats_silent (places_in (places_of old.clocks) times) old new lines effect
silent old new (family.Run Report) lines moves effect = absurd (true≢false (sym moves))
silent old new (family.Edit edit) lines moves effect = absurd (true≢false (sym moves))
silent old new (family.Give give) lines moves effect = absurd (true≢false (sym moves))
silent old new (family.Setup setting) lines moves effect = absurd (true≢false (sym moves))
silent old new (family.Tell tell) lines moves effect = absurd (true≢false (sym moves))

-- the line, if there is one, is no refusal
abbrev IsTold : Option Line → Type 0
IsTold found = IfSome found (λ line. is_refusal line ≡ false)

told-append : (front back : List Line) → AreTold front → AreTold back → AreTold (front ++ back)
told-append [] back first others = others
told-append (line ∷ front) back first others = (first.0, told-append front back first.1 others)

told-filter : {X : Type 0} (f : X → Option Line) (each : (x : X) → IsTold (f x)) (list : List X) → AreTold (filter_map f list)
told-filter f each [] = tt
told-filter f each (x ∷ list) = by (f x) (each x) (told-filter f each list)
  where
    by : (found : Option Line) → IsTold found → AreTold (filter_map f list) → AreTold (cons_option found (filter_map f list))
    by None first others = others
    by (Some line) first others = (first, others)

told-flat : {X : Type 0} (f : X → List Line) (each : (x : X) → AreTold (f x)) (list : List X) → AreTold (flat_map f list)
told-flat f each [] = tt
told-flat f each (x ∷ list) = told-append (f x) (flat_map f list) (each x) (told-flat f each list)

-- what isn't met
unmet_told : (session : SessionData) (name : List ℕ) (pairs : List (ℕ × Letter)) → IsTold (unmet_by session name pairs)
unmet_told session name pairs = by (list_all (λ pair. is_met pair.1 (state_at session.state pair.0)) pairs)
  where
    by : (met : Bool) → IsTold (if met then None
        else Some (Unmet name (map (λ pair. pair.1) pairs) (map (λ pair. state_at session.state pair.0) pairs) session.count))
    by true = tt
    by false = refl

-- what is shown
shown_told : (session : SessionData) (names : List (List ℕ)) → AreTold (map (shown_line session) names)
shown_told session [] = tt
shown_told session (name ∷ names) = (refl, shown_told session names)

-- what there is at a node
end_told : (c : CircuitData) (state : List Tern) (node : ℕ) (entry : ℕ × Option Switch) → IsTold (end_line c state node entry)
end_told c state node (number, None) = tt
end_told c state node (number, Some switch) = by (other_end node switch)
  where
    by : (found : Option ℕ) → IsTold (option_map (at_end c state number switch) found)
    by None = tt
    by (Some other) = refl

gate_told : (c : CircuitData) (state : List Tern) (node : ℕ) (entry : ℕ × Option Switch) → IsTold (gate_line c state node entry)
gate_told c state node (number, None) = tt
gate_told c state node (number, Some switch) = by (switch.gate == node)
  where
    by : (is : Bool) → IsTold (if is then Some (at_gate c state number switch) else None)
    by true = refl
    by false = tt

looked_told : (c : CircuitData) (state : List Tern) (node : ℕ) → AreTold (end_lines c state node ++ gate_lines c state node)
looked_told c state node =
    told-append (end_lines c state node) (gate_lines c state node) (told-filter (end_line c state node) (end_told c state node) (numbered c))
    (told-filter (gate_line c state node) (gate_told c state node) (numbered c))

tell_told : (session : SessionData) (tell : Tell) → AreTold (told_by session tell)
tell_told session (Expect list) = told-filter (unmet_line session)
    (λ item. unmet_told session item.0 (letters_in (letters_given session.circuit session.vectors item))) list
tell_told session (Show names) = shown_told session names
tell_told session (Look names) =
    told-flat (looked_lines session.circuit session.state) (λ name. (refl, looked_told session.circuit session.state (node_named session.circuit name)))
    names

-- the lines of a command that doesn't move are no refusals
pub no_refusals : (old new : SessionData) (command : Command) (lines : List Line) → is_move command ≡ false → Effect old command new lines → AreTold lines
no_refusals old new (family.Edit edit) lines still effect = subst AreTold (sym effect.1) tt
no_refusals old new (family.Give give) lines still effect = subst AreTold (sym effect.1) tt
no_refusals old new (family.Setup setting) lines still effect = subst AreTold (sym effect.1) tt
no_refusals old new (family.Run Step) lines still effect = absurd (true≢false still)
no_refusals old new (family.Run Phase) lines still effect = absurd (true≢false still)
no_refusals old new (family.Run (Cycle times)) lines still effect = absurd (true≢false still)
no_refusals old new (family.Run Report) lines still effect = subst AreTold (sym effect.wrote) (refl, tt)
no_refusals old new (family.Tell tell) lines still effect = subst AreTold (sym effect.1) (tell_told old tell)

-- ---- nodes

prepared_state : (does : Bool) (old mid : SessionData) (texts : List GroupTextData) → BuildsIf does old mid texts → mid.state ≡ old.state
prepared_state true old mid texts build = ap (λ (s : SessionData). s.state) build.used
prepared_state false old mid texts same = ap (λ (s : SessionData). s.state) same.0

given_few : (old : SessionData) (give : Give) → length old.state ≤ length (state_given old give)
given_few old (Set list) = omega (arith, length-assigned (states_by old.circuit old.vectors list) old.state)
given_few old (Charge list) = omega (arith, length-assigned (states_by old.circuit old.vectors list) old.state)
given_few old (Back name) =
    let kept : List Tern = unwrap_or (kept_under old.saves name) [] in
    omega (arith, length-append kept (drop (length kept) old.state), length-drop (length kept) old.state)

set_up_few : (old : SessionData) (setting : Setup) → length old.state ≤ length (setup_after old setting).state
set_up_few old (setup.Watch names) = omega arith
set_up_few old (setup.Limit number) = omega arith
set_up_few old (setup.Clock list) = omega arith
set_up_few old (setup.Keep number) = omega arith
set_up_few old (setup.Widen number) = omega arith
set_up_few old (setup.Save name) = omega arith
set_up_few old (setup.Vector name words) = omega arith

still_few : (old new : SessionData) (command : Command) (lines : List Line) → is_move command ≡ false → Effect old command new lines →
    length old.state ≤ length new.state
still_few old new (family.Edit edit) lines still effect =
    let more : List Tern = replicate (nodes (circuit_after old.circuit old.vectors edit).graph - length old.state) Unk in
    omega (arith, ap (λ (s : SessionData). length s.state) effect.0, length-append old.state more)
still_few old new (family.Give give) lines still effect =
    omega (arith, ap (λ (s : SessionData). length s.state) effect.0, given_few old give)
still_few old new (family.Setup setting) lines still effect =
    omega (arith, ap (λ (s : SessionData). length s.state) effect.0, set_up_few old setting)
still_few old new (family.Run Step) lines still effect = absurd (true≢false still)
still_few old new (family.Run Phase) lines still effect = absurd (true≢false still)
still_few old new (family.Run (Cycle times)) lines still effect = absurd (true≢false still)
still_few old new (family.Run Report) lines still effect = omega (arith, ap (λ (s : SessionData). length s.state) effect.moved)
still_few old new (family.Tell tell) lines still effect = omega (arith, ap (λ (s : SessionData). length s.state) effect.0)

-- a command that doesn't move leaves as many nodes, or more
pub few_nodes : (old new : SessionData) (command : Command) (lines : List Line) (texts : List GroupTextData) → is_move command ≡ false →
    Performs old command new lines texts → length old.state ≤ length new.state
few_nodes old new command lines texts still performs =
    subst (λ (state : List Tern). length state ≤ length new.state)
    (prepared_state (builds command) old performs.mid texts performs.prepares)
    (still_few performs.mid new command lines still performs.does.effect)
