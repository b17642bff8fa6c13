-- The steps and phases of a command: they are one list; those at places, one after the other, are those of all; and what an onlooker saw of each
-- adds up.
use Rattle.std.proofs.Common.{◌≡◌, ◌≢◌, ℕ, suc, inl, inr, ◌+◌, ◌-◌, ◌<◌, ◌≤◌, List, [], ◌∷◌, ◌++◌, length, map, replicate, All, Result, Ok, Err, OnOk, refl, sym, ap, subst, ◌∙◌, arith}
use Rattle.std.specs.Prelude.{Contains, IfErr, slice_set}
use Rattle.std.specs.List.{range_with_len}
use Rattle.std.proofs.lemmas.Bool.Decides.{eqb_tells}
use Rattle.std.proofs.lemmas.List.{length-append, get_or-set_other}
use Rattle.std.proofs.lemmas.List.Elements.{All-contains, All-map}
use Rattle.std.proofs.lemmas.Simd.{map-map}
use Rattle.ternary.specs.declared.tern.Tern.{Tern}
use Rattle.ternary.specs.declared.tern.Tern.TheVariants.{Zero, Unk}
use Rattle.switch_paths.specs.Graphs.{GraphData, nodes}
use Rattle.switch_paths.specs.Step.{IsStep}
use Rattle.switch_paths.specs.Switching.{state_at}
use Rattle.netlist.specs.Circuits.{CircuitData}
use Rattle.settling.specs.Moved.{ListsChanges}
use Rattle.settling.specs.Observing.{IsSeen}
use Rattle.settling.specs.declared.settling.Settled.{Settled}
use Rattle.settling.specs.Passing.{SteppingThrough, see_all}
use Rattle.settling.specs.Passes.{Pass, state_behind, see_passes, last_behind}
use Rattle.settling.proofs.PassingLemmas.{stepping_unique, passing_is_unique}
use Rattle.settling.proofs.PassesLemmas.{last_behind-append, see_passes-append, same_pass}
use Rattle.column_stage.specs.Acts.{Act}
use Rattle.script_lang.specs.declared.command.Command.{Command}
use Rattle.script_lang.specs.declared.command.Command.TheVariants as family
use Rattle.script_lang.specs.declared.command.Edit.{Edit}
use Rattle.script_lang.specs.declared.command.Give.{Give}
use Rattle.script_lang.specs.declared.command.Give.TheVariants.{Set, Charge, Back}
use Rattle.script_lang.specs.declared.command.Run.{Run}
use Rattle.script_lang.specs.declared.command.Run.TheVariants.{Step, Phase, Cycle, Report}
use Rattle.script_lang.specs.declared.command.Setup.{Setup}
use Rattle.script_lang.specs.declared.command.Setup.TheVariants.{Watch, Limit, Clock, Keep, Widen, Save, Vector}
use Rattle.script_lang.specs.declared.command.Tell.{Tell}
use Rattle.script_lang.specs.declared.value.Value.{Value}
use Rattle.group_text.specs.Texts.{GroupTextData}
use Rattle.told_lines.specs.Lines.{Told}
use Rattle.session_meaning.specs.declared.fault.ApplyFault.{ApplyFault}
use Rattle.session_meaning.specs.declared.fault.ApplyFault.TheVariants.{Refused, GroupNodes, GroupSwitches, WriteFault, NoMemory}
use Rattle.session_meaning.specs.Saves.{kept_under}
use Rattle.session_meaning.specs.Sessions.{SessionData, HeldSession, ClockData, IsReady, IsSession, places_of}
use Rattle.session_meaning.specs.Effects.{assigned, circuit_after, setup_after, state_given, states_by, states_with, with_beat, places_in}
use Rattle.session_meaning.specs.Outcomes.{Obeys, Quietly}
use Rattle.session_meaning.specs.Sinks.{IsSinkFault, faults_applied, refusals_sent}
use Rattle.session_meaning.specs.Stages.{Readied, SameSetup}
use Rattle.session_meaning.specs.Laws.{CommandsPassThroughOneList}
use Rattle.session_meaning.specs.Passing.{PhaseThrough, IsStepPass, IsPhasePass, BeatsThrough, RunThrough, Sees, SeesTo, SeesPass, SeesStates, SeesBeats, IsUnseen, KnowsBehind, KnowsButClocks, MovesBehind, known_behind}
use Rattle.session_meaning.proofs.BeatLemmas.{cycles-next, no_cycle}
use Rattle.session_meaning.proofs.SaveLemmas.{kept-fits, length-back}
use Rattle.session_meaning.proofs.StateLemmas.{length-assigned}

-- ---- one list

-- of a unit step
step_unique : (g : GraphData) (old : List Tern) (pass other : Pass) → IsStepPass g old pass → IsStepPass g old other → pass ≡ other
step_unique g old pass other one two =
    same_pass pass other (one.before ∙ sym two.before) (stepping_unique g 1 old pass.states other.states one.through two.through)
    (one.steps ∙ sym two.steps)

-- of a phase
phase_unique : (g : GraphData) (limit : ℕ) (old : List Tern) (pass other : Pass) → IsPhasePass g limit old pass → IsPhasePass g limit old other →
    pass ≡ other
phase_unique g limit old pass other one two =
    let (joined, settles, steps) = one.through in
    let (also, settled, count) = two.through in
    let states : pass.states ≡ other.states = (passing_is_unique g old limit pass.states other.states joined also settles settled).0 in
    same_pass pass other (one.before ∙ sym two.before) states (steps ∙ (ap length states ∙ sym count))

-- of the phases at places
beats_unique : (g : GraphData) (clocks : List ClockData) (limit : ℕ) (places : List ℕ) (old : List Tern) (passes other : List Pass) →
    BeatsThrough g clocks limit places old passes → BeatsThrough g clocks limit places old other → passes ≡ other
beats_unique g clocks limit [] old passes other one two = one ∙ sym two
beats_unique g clocks limit (place ∷ places) old passes other (pass, more, phase, beats, is) (first, later, settled, others, parts) =
    let here : pass ≡ first = phase_unique g limit (states_with clocks place old) pass first phase settled in
    let behind : more ≡ later =
    beats_unique g clocks limit places (state_behind pass) more later beats
    (subst (λ (p : Pass). BeatsThrough g clocks limit places (state_behind p) later) (sym here) others) in
    is ∙ ap (λ (p : Pass). p ∷ more) here ∙ ap (λ (rest : List Pass). first ∷ rest) behind ∙ sym parts

-- of a command that has the circuit built
run_unique : (old : SessionData) (run : Run) (passes other : List Pass) → RunThrough old run passes → RunThrough old run other → passes ≡ other
run_unique old Step passes other (pass, is, one) (also, was, two) =
    one ∙ ap (λ (p : Pass). p ∷ []) (step_unique old.circuit.graph old.state pass also is was) ∙ sym two
run_unique old Phase passes other (pass, is, one) (also, was, two) =
    one ∙ ap (λ (p : Pass). p ∷ []) (phase_unique old.circuit.graph old.limit old.state pass also is was) ∙ sym two
run_unique old (Cycle times) passes other one two =
    beats_unique old.circuit.graph old.clocks old.limit (places_in (places_of old.clocks) times) old.state passes other one two
run_unique old Report passes other one two = one ∙ sym two

-- so it is of each
pub passes_unique : CommandsPassThroughOneList
passes_unique old (family.Edit edit) passes other one two = one ∙ sym two
passes_unique old (family.Give give) passes other one two = one ∙ sym two
passes_unique old (family.Setup setup) passes other one two = one ∙ sym two
passes_unique old (family.Run run) passes other one two = run_unique old run passes other one two
passes_unique old (family.Tell tell) passes other one two = one ∙ sym two

-- ---- phases at places

module _ (g : GraphData) (clocks : List ClockData) (limit : ℕ) where
  -- at some, and then at others
  through-append : (places more : List ℕ) (old : List Tern) (passes others : List Pass) → BeatsThrough g clocks limit places old passes →
      BeatsThrough g clocks limit more (last_behind old passes) others → BeatsThrough g clocks limit (places ++ more) old (passes ++ others)
  through-append [] more old passes others none later = rw none (rw none at later)
  through-append (place ∷ places) more old passes others (pass, back, phase, beats, is) later = (
    pass,
    back ++ others,
    phase,
    through-append places more (state_behind pass) back others beats
        (subst (λ (all : List Pass). BeatsThrough g clocks limit more (last_behind old all) others) is later),
    ap (λ (all : List Pass). all ++ others) is,
  )

  module _ {S : Type 0} (begin see : S → List Tern → S) (rest : S → ℕ → S) where
    -- at none nothing is seen
    pub beats_seen-none : (state : List Tern) (before : S) → SeesTo begin see rest (BeatsThrough g clocks limit [] state) state state before before
    beats_seen-none state before = record { passes = []; through = refl; last = refl; seen = refl }

    -- what was seen of some, and then of others
    pub beats_seen-append : (done more : List ℕ) (start now next : List Tern) (before mid after : S) →
        SeesTo begin see rest (BeatsThrough g clocks limit done start) start now before mid →
        SeesTo begin see rest (BeatsThrough g clocks limit more now) now next mid after →
        SeesTo begin see rest (BeatsThrough g clocks limit (done ++ more) start) start next before after
    beats_seen-append done more start now next before mid after so_far further = record {
      passes = so_far.passes ++ further.passes;
      through = through-append done more start so_far.passes further.passes so_far.through
          (subst (λ (state : List Tern). BeatsThrough g clocks limit more state further.passes) so_far.last further.through);
      last = further.last ∙ ap (λ (state : List Tern). last_behind state further.passes) so_far.last
          ∙ sym (last_behind-append start so_far.passes further.passes);
      seen = further.seen ∙ ap (λ (saw : S). see_passes begin see rest saw further.passes) so_far.seen
          ∙ sym (see_passes-append begin see rest before so_far.passes further.passes);
    }

    -- what was seen at one place
    one_seen : (place : ℕ) (now next : List Tern) (mid after : S) →
        SeesPass begin see rest (IsPhasePass g limit (states_with clocks place now)) next mid after →
        SeesTo begin see rest (BeatsThrough g clocks limit (place ∷ []) now) now next mid after
    one_seen place now next mid after phase =
        record { passes = phase.pass ∷ []; through = (phase.pass, [], phase.through, refl, refl); last = phase.last; seen = phase.seen }

    -- one place more
    pub beats_seen-more : (done : List ℕ) (place : ℕ) (start now put next : List Tern) (before mid after : S) →
        SeesTo begin see rest (BeatsThrough g clocks limit done start) start now before mid → put ≡ states_with clocks place now →
        SeesPass begin see rest (IsPhasePass g limit put) next mid after →
        SeesTo begin see rest (BeatsThrough g clocks limit (done ++ place ∷ []) start) start next before after
    beats_seen-more done place start now put next before mid after so_far is phase =
        beats_seen-append done (place ∷ []) start now next before mid after so_far
        (one_seen place now next mid after (subst (λ (state : List Tern). SeesPass begin see rest (IsPhasePass g limit state) next mid after) is phase))

    -- one cycle more
    pub cycle_seen : (cycle : ℕ) (start now next : List Tern) (before mid after : S) →
        SeesTo begin see rest (BeatsThrough g clocks limit (places_in (places_of clocks) cycle) start) start now before mid →
        SeesTo begin see rest (BeatsThrough g clocks limit (range_with_len 0 (places_of clocks)) now) now next mid after →
        SeesTo begin see rest (BeatsThrough g clocks limit (places_in (places_of clocks) (cycle + 1)) start) start next before after
    cycle_seen cycle start now next before mid after so_far further =
        rw (cycles-next (places_of clocks) cycle)
        (beats_seen-append (places_in (places_of clocks) cycle) (range_with_len 0 (places_of clocks)) start now next before mid after so_far further)

-- ---- the same of a session

module _ {S : Type 0} (begin see : S → List Tern → S) (rest : S → ℕ → S) where
  -- one place more
  pub beat_seen : (start now put next : SessionData) (done : List ℕ) (place : ℕ) (before mid after : S) → SameSetup start now →
      put ≡ with_beat now place → SeesBeats begin see rest done start now before mid →
      SeesPass begin see rest (IsPhasePass put.circuit.graph put.limit put.state) next.state mid after →
      SeesBeats begin see rest (done ++ place ∷ []) start next before after
  beat_seen start now put next done place before mid after setup beat so_far phase =
      let g : put.circuit.graph ≡ start.circuit.graph = ap (λ (s : SessionData). s.circuit.graph) beat ∙ ap (λ (c : CircuitData). c.graph) setup.circuit in
      let limit : put.limit ≡ start.limit = ap (λ (s : SessionData). s.limit) beat ∙ setup.limit in
      let is : put.state ≡ states_with start.clocks place now.state =
      ap (λ (s : SessionData). s.state) beat ∙ ap (λ (clocks : List ClockData). states_with clocks place now.state) setup.clocks in
      let here : SeesPass begin see rest (IsPhasePass start.circuit.graph start.limit put.state) next.state mid after =
      subst (λ (n : ℕ). SeesPass begin see rest (IsPhasePass start.circuit.graph n put.state) next.state mid after) limit
      (subst (λ (graph : GraphData). SeesPass begin see rest (IsPhasePass graph put.limit put.state) next.state mid after) g phase) in
      beats_seen-more start.circuit.graph start.clocks start.limit begin see rest done place start.state now.state put.state next.state before mid after
      so_far is here

  -- one cycle more
  pub cycles_seen : (start now next : SessionData) (cycle : ℕ) (before mid after : S) → SameSetup start now →
      SeesBeats begin see rest (places_in (places_of start.clocks) cycle) start now before mid →
      SeesBeats begin see rest (range_with_len 0 (places_of now.clocks)) now next mid after →
      SeesBeats begin see rest (places_in (places_of start.clocks) (cycle + 1)) start next before after
  cycles_seen start now next cycle before mid after setup so_far further =
      let here : SeesTo begin see rest (BeatsThrough start.circuit.graph start.clocks start.limit (range_with_len 0 (places_of start.clocks)) now.state)
      now.state next.state mid after =
      subst (λ (n : ℕ). SeesTo begin see rest (BeatsThrough start.circuit.graph start.clocks n (range_with_len 0 (places_of start.clocks)) now.state)
      now.state next.state mid after) setup.limit
      (subst (λ (clocks : List ClockData). SeesTo begin see rest
      (BeatsThrough start.circuit.graph clocks now.limit (range_with_len 0 (places_of clocks)) now.state) now.state next.state mid after) setup.clocks
      (subst (λ (c : CircuitData). SeesTo begin see rest
      (BeatsThrough c.graph now.clocks now.limit (range_with_len 0 (places_of now.clocks)) now.state) now.state next.state mid after) setup.circuit
      further)) in
      cycle_seen start.circuit.graph start.clocks start.limit begin see rest cycle start.state now.state next.state before mid after so_far here

  -- at the start there is none
  pub beats_seen-first : (session : SessionData) (before : S) → SeesBeats begin see rest [] session session before before
  beats_seen-first session before = beats_seen-none session.circuit.graph session.clocks session.limit begin see rest session.state before

  pub cycles_seen-first : (session : SessionData) (before : S) →
      SeesBeats begin see rest (places_in (places_of session.clocks) 0) session session before before
  cycles_seen-first session before =
      subst (λ (places : List ℕ). SeesBeats begin see rest places session session before before) (sym (no_cycle (places_of session.clocks)))
      (beats_seen-first session before)

  -- a unit step was seen: its beginning, the new state if it changes, and its end
  pub step_pass : (g : GraphData) (old new : List Tern) (before begun passed after : S) → begun ≡ begin before old →
      SeesStates see (SteppingThrough g 1 old) old new begun passed → after ≡ rest passed 1 →
      SeesPass begin see rest (IsStepPass g old) new before after
  step_pass g old new before begun passed after begins sees rests = record {
    pass = record { before = old; states = sees.passed; steps = 1 };
    through = record { before = refl; through = sees.through; steps = refl };
    last = sees.last;
    seen = rests ∙ (ap (λ (saw : S). rest saw 1) sees.seen ∙ ap (λ (saw : S). rest (see_all see saw sees.passed) 1) begins);
  }

  -- a phase was seen: its beginning, the states behind its unit steps, and its end
  pub phase_pass : (g : GraphData) (limit : ℕ) (old new : List Tern) (steps : ℕ) (before begun passed after : S) → begun ≡ begin before old →
      SeesStates see (PhaseThrough g limit old steps) old new begun passed → after ≡ rest passed steps →
      SeesPass begin see rest (IsPhasePass g limit old) new before after
  phase_pass g limit old new steps before begun passed after begins sees rests = record {
    pass = record { before = old; states = sees.passed; steps = steps };
    through = record { before = refl; through = sees.through };
    last = sees.last;
    seen = rests ∙ (ap (λ (saw : S). rest saw steps) sees.seen ∙ ap (λ (saw : S). rest (see_all see saw sees.passed) steps) begins);
  }

-- what was seen of a state that settled
pub settled_seen : {S : Type 0} (see : S → List Tern → S) (g : GraphData) (old : List Tern) (limit : ℕ) (new : List Tern) (settled : Settled)
    (before after : S) → IsSeen see g old limit new settled before after →
    SeesStates see (PhaseThrough g limit old settled.steps) old new before after
settled_seen see g old limit new settled before after sees =
    record { passed = sees.passed; through = (settled.joined, sees.settles, sees.count); last = sees.last; seen = sees.seen }

-- the clocks' nodes are among those of the state
pub put_within : (start now : SessionData) → IsSession start → SameSetup start now → length now.state ≡ nodes now.circuit.graph →
    All (λ clock. clock.node < length now.state) now.clocks
put_within start now is setup counted =
    rw (counted, setup.circuit, setup.clocks) is.clocks

-- ---- one step

module _ {S : Type 0} (see : S → List Tern → S) (g : GraphData) (old new : List Tern) (before : S) (step : IsStep g old new) where
  -- that changes something
  pub step_seen : new ≢ old → SeesStates see (SteppingThrough g 1 old) old new before (see before new)
  step_seen changed = record { passed = new ∷ []; through = (step, changed, refl); last = refl; seen = refl }

  -- that changes nothing
  pub step_unseen : new ≡ old → SeesStates see (SteppingThrough g 1 old) old new before before
  step_unseen same = record { passed = []; through = subst (IsStep g old) same step; last = same; seen = refl }

-- ---- in fewer words

module _ {S : Type 0} (begin see : S → List Tern → S) (rest : S → ℕ → S) where
  -- what leads to a state was seen, whatever that is
  pub sees_of : (Through : List Pass → Type 0) (old new : List Tern) (before after : S) → SeesTo begin see rest Through old new before after →
      Sees begin see rest Through before after
  sees_of Through old new before after sees = record { passes = sees.passes; through = sees.through; seen = sees.seen }

  -- and so was one step or phase
  pub sees_one : (Through : Pass → Type 0) (new : List Tern) (before after : S) → SeesPass begin see rest Through new before after →
      Sees begin see rest (λ passes. (pass : Pass) × Through pass × (passes ≡ pass ∷ [])) before after
  sees_one Through new before after sees =
      record { passes = sees.pass ∷ []; through = (sees.pass, sees.through, refl); seen = sees.seen }

  -- of a command that has none nothing was seen
  pub nothing_seen : (before : S) → Sees begin see rest (λ passes. passes ≡ []) before before
  nothing_seen before = record { passes = []; through = refl; seen = refl }

-- ---- where no unit step is taken

-- a command that gives nodes states leaves as many
given_same : (old : SessionData) (give : Give) → IsReady old → length (state_given old give) ≡ length old.state
given_same old (Set list) ready = length-assigned (states_by old.circuit old.vectors list) old.state
given_same old (Charge list) ready = length-assigned (states_by old.circuit old.vectors list) old.state
given_same old (Back name) ready =
    length-back (nodes old.circuit.graph) (kept_under old.saves name) old.state ready.states
    (kept-fits (nodes old.circuit.graph) old.saves name ready.saved)

-- and one that sets what others go by leaves all states
set_up_same : (old : SessionData) (setup : Setup) → (setup_after old setup).state ≡ old.state
set_up_same old (Watch names) = refl
set_up_same old (Limit number) = refl
set_up_same old (Clock list) = refl
set_up_same old (Keep number) = refl
set_up_same old (Widen number) = refl
set_up_same old (Save name) = refl
set_up_same old (Vector name words) = refl

-- so who knew the state before a command knows so much behind it
module _ {O : Type 0} (knows : O → List Tern → Type 0) (onlooker : O) (old new : SessionData) (known : knows onlooker old.state) where
  -- if it tells nothing
  pub knows-edit : (edit : Edit) (result : Result (Unit {0}) ApplyFault) → Quietly old (family.Edit edit) new result →
      OnOk result (KnowsBehind knows onlooker old (family.Edit edit) new)
  knows-edit edit (Ok _) quiet = record {
    known = known;
    moves = (
      nodes (circuit_after old.circuit old.vectors edit).graph - length old.state,
      ap (λ (s : SessionData). s.state) quiet.effect.0,
    );
  }
  knows-edit edit (Err fault) quiet = tt

  pub knows-give : IsReady old → (give : Give) (result : Result (Unit {0}) ApplyFault) → Quietly old (family.Give give) new result →
      OnOk result (KnowsBehind knows onlooker old (family.Give give) new)
  knows-give ready give (Ok _) quiet = record {
    known = known;
    moves = (quiet.effect.0, ap (λ (s : SessionData). length s.state) quiet.effect.0 ∙ given_same old give ready);
  }
  knows-give ready give (Err fault) quiet = tt

  pub knows-setup : (setup : Setup) (result : Result (Unit {0}) ApplyFault) → Quietly old (family.Setup setup) new result →
      OnOk result (KnowsBehind knows onlooker old (family.Setup setup) new)
  knows-setup setup (Ok _) quiet = record {
    known = known;
    moves = ap (λ (s : SessionData). s.state) quiet.effect.0 ∙ set_up_same old setup;
  }
  knows-setup setup (Err fault) quiet = tt

  -- and if it tells
  pub knows-tell : {H : Type 0} (hear : H → Told → H) (part : H → Told → H → Type 0) (tell : Tell) (before after : H) (asked told : List GroupTextData)
      (refusals now : ℕ) (result : Result (Unit {0}) ApplyFault) → Obeys hear part old (family.Tell tell) new before after asked told refusals now result →
      OnOk result (KnowsBehind knows onlooker old (family.Tell tell) new)
  knows-tell hear part tell before after asked told refusals now (Ok _) obeys =
      let performs = obeys.0.performs in record {
        known = known;
        moves = ap (λ (s : SessionData). s.state) performs.does.effect.0 ∙ ap (λ (s : SessionData). s.state) performs.prepares.0;
      }
  knows-tell hear part tell before after asked told refusals now (Err fault) obeys = tt

-- who was shown the unit steps of a command knows what they left
pub knows-run : {O : Type 0} (knows : O → List Tern → Type 0) (onlooker : O) (old new : SessionData) (run : Run) → knows onlooker new.state →
    KnowsBehind knows onlooker old (family.Run run) new
knows-run knows onlooker old new run known = record { known = known; moves = refl }

-- what is known is of no more nodes than there are
pub known_few : (old new : SessionData) (command : Command) → MovesBehind old command new → length (known_behind old command new) ≤ length new.state
known_few old new (family.Edit edit) moves = omega (arith, ap length moves.1, length-append old.state (replicate moves.0 Unk))
known_few old new (family.Give give) moves = omega (arith, moves.1)
known_few old new (family.Setup setup) moves = omega (arith, ap length moves)
known_few old new (family.Run run) moves = omega arith
known_few old new (family.Tell tell) moves = omega (arith, ap length moves)

-- ---- behind a build

module _ {S M : Type 0} (begin see : S → List Tern → S) (rest : S → ℕ → S) (did : Act → M → M → Type 0) (old mid : HeldSession M) (asked told : List GroupTextData)
    (ready : Readied did old mid asked told) where
  -- a command has the same steps and phases
  pub sees-readied : (run : Run) (before after : S) → Sees begin see rest (RunThrough mid.core run) before after →
      Sees begin see rest (RunThrough old.core run) before after
  sees-readied Step before after sees = (rw ready.build.used at sees)
  sees-readied Phase before after sees = (rw ready.build.used at sees)
  sees-readied (Cycle times) before after sees = (rw ready.build.used at sees)
  sees-readied Report before after sees = sees

-- a build leaves the state
pub state-readied : {M : Type 0} (did : Act → M → M → Type 0) (old mid : HeldSession M) (asked told : List GroupTextData) → Readied did old mid asked told →
    mid.core.state ≡ old.core.state
state-readied did old mid asked told ready = ap (λ (s : SessionData). s.state) ready.build.used

-- ---- the placing of a cycle's letters

-- it gives each clock's node its state
beat_given : (clocks : List ClockData) (place : ℕ) (state : List Tern) →
    states_with clocks place state ≡ assigned state (map (λ clock. (clock.node, state_at clock.states place)) clocks)
beat_given [] place state = refl
beat_given (clock ∷ clocks) place state = beat_given clocks place (slice_set state clock.node (state_at clock.states place))

-- nodes that are given states are listed by them
give_lists : (pairs : List (ℕ × Tern)) (state : List Tern) (node : ℕ) → state_at (assigned state pairs) node ≢ state_at state node →
    Contains (map (λ pair. pair.0) pairs) node
give_lists [] state node differs = absurd (differs refl)
give_lists (pair ∷ pairs) state node differs =
    elim (eqb_tells node pair.0) [
      | inl same ↦ (0, omega arith, sym same.1)
      | inr other ↦
          let later = give_lists pairs (slice_set state pair.0 pair.1) node
          (λ is. differs (is ∙ get_or-set_other state pair.0 node pair.1 Zero other.1)) in
          (suc later.0, omega (arith, later.1), later.2)
    ]

pub given_listed : (pairs : List (ℕ × Tern)) (old new : List Tern) → All (λ pair. pair.0 < length old) pairs → new ≡ assigned old pairs →
    ListsChanges (map (λ pair. pair.0) pairs) old new
given_listed pairs old new within is = record {
  count = ap length is ∙ length-assigned pairs old;
  each = λ node inside differs. give_lists pairs old node (λ same. differs (ap (λ (state : List Tern). state_at state node) is ∙ same));
  inside = λ node there. All-contains (λ (n : ℕ). n < length old) (map (λ pair. pair.0) pairs) node
      (All-map (λ (n : ℕ). n < length old) (λ (pair : ℕ × Tern). pair.0) pairs within) there;
}

-- so are those to which a command gave states
pub given_behind : (old new : SessionData) (list : List (List ℕ × Value)) (pairs : List (ℕ × Tern)) →
    new ≡ record old { state = assigned old.state (states_by old.circuit old.vectors list) } → length new.state ≡ length old.state →
    pairs ≡ states_by new.circuit new.vectors list → All (λ pair. pair.0 < length new.state) pairs →
    ListsChanges (map (λ pair. pair.0) pairs) old.state new.state
given_behind old new list pairs is same given within =
    given_listed pairs old.state new.state (subst (λ (n : ℕ). All (λ (pair : ℕ × Tern). pair.0 < n) pairs) same within)
    (ap (λ (s : SessionData). s.state) is
    ∙ ap (assigned old.state) (sym (given ∙ ap (λ (s : SessionData). states_by s.circuit s.vectors list) is)))

-- the nodes of the clocks
clocks_within : (clocks : List ClockData) (count node : ℕ) → All (λ clock. clock.node < count) clocks → Contains (map (λ clock. clock.node) clocks) node →
    node < count
clocks_within clocks count node within =
    All-contains (λ (n : ℕ). n < count) (map (λ clock. clock.node) clocks) node
    (All-map (λ (n : ℕ). n < count) (λ (clock : ClockData). clock.node) clocks within)

pub put_listed : (clocks : List ClockData) (place : ℕ) (old new : List Tern) → All (λ clock. clock.node < length old) clocks →
    new ≡ states_with clocks place old → ListsChanges (map (λ clock. clock.node) clocks) old new
put_listed clocks place old new within is =
    let pair : ClockData → ℕ × Tern = λ clock. (clock.node, state_at clock.states place) in
    subst (λ nodes. ListsChanges nodes old new) (map-map (λ (pair : ℕ × Tern). pair.0) pair clocks)
    (given_listed (map pair clocks) old new (All-map (λ (pair : ℕ × Tern). pair.0 < length old) pair clocks within) (is ∙ beat_given clocks place old))

-- who knows a state knows it but for the clocks' nodes
pub known_but_clocks : {O : Type 0} (knows : O → List Tern → Type 0) (onlooker : O) (clocks : List ClockData) (state : List Tern) →
    All (λ clock. clock.node < length state) clocks → knows onlooker state → KnowsButClocks knows onlooker clocks state
known_but_clocks knows onlooker clocks state within known = (
  state,
  known,
  record {
    count = refl;
    each = λ node inside differs. absurd (differs refl);
    inside = λ node there. clocks_within clocks (length state) node within there;
  },
)

-- so it is in a session
pub known_at : {O : Type 0} (knows : O → List Tern → Type 0) (onlooker : O) (session : SessionData) → IsSession session → knows onlooker session.state →
    KnowsButClocks knows onlooker session.clocks session.state
known_at knows onlooker session is known = known_but_clocks knows onlooker session.clocks session.state (rw is.ready.states is.clocks) known

-- and behind the placing of a cycle's letters
pub known-put : {O : Type 0} (knows : O → List Tern → Type 0) (onlooker : O) (start now put : SessionData) (place : ℕ) → IsSession start →
    SameSetup start now → length now.state ≡ nodes now.circuit.graph → put ≡ with_beat now place → knows onlooker now.state →
    KnowsButClocks knows onlooker put.clocks put.state
known-put knows onlooker start now put place is setup counted beat known =
    subst (λ (s : SessionData). KnowsButClocks knows onlooker s.clocks s.state) (sym beat) (
      now.state,
      known,
      put_listed now.clocks place now.state (states_with now.clocks place now.state) (put_within start now is setup counted) refl,
    )

-- ---- where a call ends with a fault

-- the onlooker is as it was
pub unseen_yet : {O T : Type 0} (onlooker : O) (faults now refusals later : ℕ) (result : Result T ApplyFault) →
    IsUnseen onlooker onlooker faults now refusals later result
unseen_yet onlooker faults now refusals later (Ok _) = tt
unseen_yet onlooker faults now refusals later (Err fault) = inl refl

-- or the hearer counts the fault that it caused
pub unseen_sink : {O : Type 0} (old new : O) (faults now refusals later : ℕ) (result : Result (Unit {0}) ApplyFault) → IfErr result IsSinkFault →
    now ≡ faults_applied faults result → later ≡ refusals_sent refusals result → IsUnseen old new faults now refusals later result
unseen_sink old new faults now refusals later (Ok _) cause failed refused = tt
unseen_sink old new faults now refusals later (Err (Refused refusal)) cause failed refused = absurd cause
unseen_sink old new faults now refusals later (Err (GroupNodes node count)) cause failed refused = absurd cause
unseen_sink old new faults now refusals later (Err (GroupSwitches node count)) cause failed refused = absurd cause
unseen_sink old new faults now refusals later (Err WriteFault) cause failed refused = inr (inl failed)
unseen_sink old new faults now refusals later (Err NoMemory) cause failed refused = inr (inr refused)
