-- What acts do to a stage's machine: the list of a command's acts says what the command did to it.
-- The plan: by recursion over the acts of each family, and for a cycle over its places.
use Rattle.std.proofs.Common.{◌≡◌, ℕ, List, [], ◌∷◌, ◌++◌, map, get_or, All, Contains, Option, None, Some, refl, sym, ap, subst, ◌∙◌, append-nil, append_assoc}
use Rattle.std.specs.Prelude.{IfSome, ◌⊎◌}
use Rattle.std.proofs.lemmas.List.{get_or_default}
use Rattle.std.proofs.lemmas.List.Elements.{All-head, All-tail}
use Rattle.ternary.specs.declared.tern.Tern.{Tern}
use Rattle.ternary.specs.Counts.{raised}
use Rattle.strength_order.specs.declared.TheConstants.{INPUT_LEVEL}
use Rattle.switch_paths.specs.Graphs.{GraphData, level_of}
use Rattle.switch_paths.specs.Switching.{state_at}
use Rattle.group_meaning.proofs.MappedLists.{contains-map}
use Rattle.machine_parts.specs.Parts.{IsStale}
use Rattle.machine_parts.specs.Stepping.{ReadsChange}
use Rattle.machine_laws.specs.Machines.{MachineData, TouchesChanged}
use Rattle.machine_laws.specs.Fitting.{FitsGraph}
use Rattle.column_stage.specs.Acts.{Act, Reserved, Placed, Edited, Built, Stepped, Rested, Leads}
use Rattle.channel_groups.specs.declared.change.Change.{Change}
use Rattle.column_stage.specs.Columns.{letter_in}
use Rattle.column_stage.proofs.LeadingLemmas.{leads_split}
use Rattle.script_lang.specs.declared.command.Run.{Run}
use Rattle.script_lang.specs.declared.command.Run.TheVariants.{Step, Phase, Cycle, Report}
use Rattle.told_lines.specs.Lines.{Line, Wave}
use Rattle.session_meaning.specs.Sessions.{SessionData, HeldSession, ClockData, places_of}
use Rattle.session_meaning.specs.Effects.{places_in}
use Rattle.session_meaning.specs.Stages.{AreBeatActs, AreRunActs, IsEditing, PlacesOther, RestsBy, RunsOn, SettlesOn, acts_of_clocks, acts_of_states}
use Rattle.session_meaning.proofs.MoveLemmas.{circuit-beats}
use Rattle.machine_stage.specs.Machines.{StageData, FitsIn, IsHeldMachine, BuildsMachine, MovesMachine, SettlesMachine, StepsMachine, Survives, moves_of, placed_of}
use Rattle.machine_stage.specs.Stages.{AssignsIn, BuiltFrom, DidAct, EditsFrom, MovesBy, PutsIn, PutsOthersIn, TakesPhase, TicksIn}
use Rattle.machine_stage.proofs.MovingLemmas.{moves-from, moves-more, moves-none, moves-phase}
use Rattle.machine_stage.proofs.OtherLemmas.{one_put-in}
use Rattle.machine_stage.proofs.PlacingLemmas.{assigns_in-more, ticks_in-more, ticks_in-none}
use Rattle.machine_stage.proofs.TickLemmas.{stays-ticked}

-- ---- edits

-- what holds of one that is there, and leads to another fact, gives that fact of it
IfSome-weaker : {X : Type 0} {P Q : X → Type 0} (found : Option X) → ((x : X) → P x → Q x) → IfSome found P → IfSome found Q
IfSome-weaker None leads holds = tt
IfSome-weaker (Some x) leads holds = leads x holds

-- what no act did to the machine, no edit did
pub survives-same : (found : Option MachineData) → IfSome found (Survives found)
survives-same None = tt
survives-same (Some machine) = record { before = machine; was = refl; moves = refl; placed = refl }

-- and what survived one edit, and then another, survived both
survives-both : (old mid new : Option MachineData) → IfSome mid (Survives old) → IfSome new (Survives mid) → IfSome new (Survives old)
survives-both old mid new first second = IfSome-weaker new one second
  where
    one : (machine : MachineData) → Survives mid machine → Survives old machine
    one machine survives =
        let earlier = subst (λ (m : Option MachineData). IfSome m (Survives old)) survives.was first in
        record {
          before = earlier.before;
          was = earlier.was;
          moves = survives.moves ∙ earlier.moves;
          placed = survives.placed ∙ earlier.placed;
        }

-- the machine that is there after the acts of an edit was there before
pub edits_by : (acts : List Act) (start : Option MachineData) (now new : StageData) → All IsEditing acts → IfSome now.machine (Survives start) →
    Leads DidAct now acts new → IfSome new.machine (Survives start)
edits_by [] start now new each so_far same = subst (λ (s : StageData). IfSome s.machine (Survives start)) (sym same) so_far
edits_by (act ∷ acts) start now new each so_far (mid, did, rest) =
    edits_by acts start mid new (All-tail IsEditing act acts each) (by act (All-head IsEditing act acts each) did) rest
  where
    from : (machine : MachineData) (g : GraphData) (change : Change) → EditsFrom g change now.machine machine → Survives now.machine machine
    from machine g change edits = record { before = edits.before; was = edits.was; moves = edits.edits.moves; placed = edits.edits.placed }

    by : (one : Act) → IsEditing one → DidAct one now mid → IfSome mid.machine (Survives start)
    by Reserved editing same = subst (λ (m : Option MachineData). IfSome m (Survives start)) (sym same.1) so_far
    by (Edited g change) editing edits =
        survives-both start now.machine mid.machine so_far (IfSome-weaker mid.machine (λ machine. from machine g change) edits)
    by (Placed g node letters) editing did = absurd editing
    by (Built large g) editing did = absurd editing
    by (Stepped g) editing did = absurd editing
    by (Rested g limit counts) editing did = absurd editing

-- ---- states that are given

-- the nodes of pairs are among them
each_among : (pairs : List (ℕ × Tern)) → All (λ (pair : ℕ × Tern). Contains (map (λ pair. pair.0) pairs) pair.0) pairs
each_among pairs = λ k d inside.
    contains-map (λ (pair : ℕ × Tern). pair.0) pairs k (get_or pairs k d) inside (sym (get_or_default pairs k d (get_or pairs k d) inside))

-- nodes that are placed one after the other were placed in the machine, if there is one
given_by : (g : GraphData) (given : List ℕ) (pairs : List (ℕ × Tern)) (start : Option MachineData) (now new : StageData) →
    All (λ (pair : ℕ × Tern). Contains given pair.0) pairs → AssignsIn g given start now.machine → Leads DidAct now (acts_of_states g pairs) new →
    AssignsIn g given start new.machine
given_by g given [] start now new among so_far same = subst (λ (s : StageData). AssignsIn g given start s.machine) (sym same) so_far
given_by g given (pair ∷ pairs) start now new among so_far (mid, puts, rest) =
    given_by g given pairs start mid new (All-tail (λ (one : ℕ × Tern). Contains given one.0) pair pairs among)
    (assigns_in-more g given pair.0 (letter_in 0 (pair.1 ∷ [])) start now.machine mid.machine
    (All-head (λ (one : ℕ × Tern). Contains given one.0) pair pairs among) so_far puts) rest

pub assigns_by : (g : GraphData) (pairs : List (ℕ × Tern)) (old new : StageData) →
    AssignsIn g (map (λ pair. pair.0) pairs) old.machine old.machine → Leads DidAct old (acts_of_states g pairs) new →
    AssignsIn g (map (λ pair. pair.0) pairs) old.machine new.machine
assigns_by g pairs old new none leads = given_by g (map (λ pair. pair.0) pairs) pairs old.machine old new (each_among pairs) none leads

-- so were nodes whose states differ
pub others_by : (g : GraphData) (before after : List Tern) (acts : List Act) (start : Option MachineData) (now new : StageData) →
    All (PlacesOther g before after) acts → PutsOthersIn g before after start now.machine → Leads DidAct now acts new →
    PutsOthersIn g before after start new.machine
others_by g before after [] start now new each so_far same =
    subst (λ (s : StageData). PutsOthersIn g before after start s.machine) (sym same) so_far
others_by g before after (act ∷ acts) start now new each so_far (mid, did, rest) =
    let other = All-head (PlacesOther g before after) act acts each in
    let puts : PutsIn g other.node (letter_in 0 other.letters) now.machine mid.machine = subst (λ (one : Act). DidAct one now mid) other.is did in
    others_by g before after acts start mid new (All-tail (PlacesOther g before after) act acts each)
    (one_put-in g before after other.node (letter_in 0 other.letters) start now.machine mid.machine other.differs so_far puts) rest

-- ---- phases

-- clocks whose nodes are placed one after the other
ticked_by : (g : GraphData) (all clocks : List ClockData) (place : ℕ) (start : Option MachineData) (now new : StageData) →
    (All (λ clock. level_of g clock.node ≡ INPUT_LEVEL) all → All (λ clock. level_of g clock.node ≡ INPUT_LEVEL) clocks) →
    TicksIn g all start now.machine → Leads DidAct now (acts_of_clocks g clocks place) new → TicksIn g all start new.machine
ticked_by g all [] place start now new inputs so_far same = subst (λ (s : StageData). TicksIn g all start s.machine) (sym same) so_far
ticked_by g all (clock ∷ clocks) place start now new inputs so_far (mid, puts, rest) =
    ticked_by g all clocks place start mid new
    (λ are. All-tail (λ (other : ClockData). level_of g other.node ≡ INPUT_LEVEL) clock clocks (inputs are))
    (ticks_in-more g all clock (letter_in 0 (state_at clock.states place ∷ [])) start now.machine mid.machine
    (λ are. All-head (λ (other : ClockData). level_of g other.node ≡ INPUT_LEVEL) clock clocks (inputs are)) so_far puts) rest

-- the act of a phase moves the machine, as the phase's line says
rested_by : (g : GraphData) (limit : ℕ) (lines : List Line) (act : Act) (old new : StageData) (rests : RestsBy g limit lines act) → DidAct act old new →
    MovesBy (λ before after. TakesPhase g limit before after rests.count.steps rests.count.joined) old new
rested_by g limit lines act old new rests did = subst (λ (one : Act). DidAct one old new) rests.is did

fits_after : (g : GraphData) (limit : ℕ) (lines : List Line) (act : Act) (old new : StageData) → RestsBy g limit lines act → DidAct act old new →
    FitsIn g new.machine
fits_after g limit lines act old new rests did =
    let moves = rested_by g limit lines act old new rests did in
    record { machine = moves.after; there = moves.there; fits = moves.leads.fits }

moves_after : (g : GraphData) (limit : ℕ) (lines : List Line) (act : Act) (old new : StageData) → RestsBy g limit lines act → DidAct act old new →
    MovesMachine limit old.machine new.machine lines
moves_after g limit lines act old new rests did =
    subst (λ (some : List Line). MovesMachine limit old.machine new.machine some) (sym rests.line)
    (moves-phase g limit rests.n rests.count rests.values old new (rested_by g limit lines act old new rests did))

module _ (g : GraphData) (limit : ℕ) (clocks : List ClockData) (inputs : All (λ clock. level_of g clock.node ≡ INPUT_LEVEL) clocks) where
  -- phases at places of the clocks, behind others
  beats_by : (places : List ℕ) (before lines : List Line) (acts : List Act) (start : Option MachineData) (now new : StageData) → FitsIn g now.machine →
      MovesMachine limit start now.machine before → AreBeatActs g limit clocks places lines acts → Leads DidAct now acts new →
      FitsIn g new.machine × MovesMachine limit start new.machine (before ++ lines)
  beats_by [] before lines acts start now new built so_far (no_line, no_act) leads =
      let same : new ≡ now = subst (λ (some : List Act). Leads DidAct now some new) no_act leads in
      let all : before ≡ before ++ lines = sym (ap (λ (some : List Line). before ++ some) no_line ∙ append-nil before) in (
        subst (λ (s : StageData). FitsIn g s.machine) (sym same) built,
        subst (λ (some : List Line). MovesMachine limit start new.machine some) all
            (subst (λ (s : StageData). MovesMachine limit start s.machine before) (sym same) so_far),
      )
  beats_by (place ∷ places) before lines acts start now new built so_far (front, back, act, more, rests, others, all_lines, all_acts) leads =
      let line : Line = Wave rests.n rests.count.steps rests.count.joined rests.values in
      let (put, ticks, (mid, did, rest)) =
      leads_split DidAct (acts_of_clocks g clocks place) (act ∷ more) now new (subst (λ (some : List Act). Leads DidAct now some new) all_acts leads) in
      let ticked : TicksIn g clocks now.machine put.machine =
      ticked_by g clocks clocks place now.machine now put (λ are. are) (ticks_in-none g clocks now.machine) ticks in
      let phase : MovesMachine limit put.machine mid.machine (line ∷ []) =
      subst (λ (some : List Line). MovesMachine limit put.machine mid.machine some) rests.line (moves_after g limit front act put mid rests did) in
      let (fits, moves) =
      beats_by places (before ++ line ∷ []) back more start mid new (fits_after g limit front act put mid rests did)
      (moves-more limit start now.machine put.machine mid.machine before line so_far (stays-ticked g clocks now.machine put.machine inputs built ticked) phase)
      others rest in
      let whole : (before ++ line ∷ []) ++ back ≡ before ++ lines =
      append_assoc before (line ∷ []) back
      ∙ ap (λ (some : List Line). before ++ some) (sym (all_lines ∙ ap (λ (some : List Line). some ++ back) rests.line)) in
      (fits, subst (λ (some : List Line). MovesMachine limit start new.machine some) whole moves)

-- ---- what is built before it

module _ (old new : HeldSession StageData) (held_old : IsHeldMachine old) (held_new : IsHeldMachine new)
    (graph : new.core.circuit.graph ≡ old.core.circuit.graph) where
  -- a unit step behind a build
  pub by_step : RunsOn DidAct old Step new → StepsMachine old new
  by_step (mid, built, (after, moves, same)) =
      let before_is : moves.before.state ≡ old.core.state = moves.from ∙ built.state ∙ held_old.same in
      let after_is : moves.after.state ≡ new.core.state = moves.to ∙ sym (ap (λ (s : StageData). s.state) same) ∙ held_new.same in
      let moved : moves.before.moves ≡ moves_of old.stage.machine = ap moves_of (sym moves.was ∙ built.there) ∙ built.moves in
      let placed : moves.before.placed ≡ placed_of old.stage.machine = ap placed_of (sym moves.was ∙ built.there) ∙ built.placed in
      record {
        machine = moves.after;
        there = ap (λ (s : StageData). s.machine) same ∙ moves.there;
        fits = subst (λ (g : GraphData). FitsGraph g moves.after) (sym graph) moves.leads.fits;
        moved = λ changed. moves.leads.moved (λ still. changed (sym after_is ∙ still ∙ before_is)) ∙ ap (λ (n : ℕ). raised n 1) moved;
        rested = λ still. moves.leads.rested (after_is ∙ still ∙ sym before_is) ∙ moved;
        placed = moves.leads.placed ∙ placed;
        marks = λ k marked. subst (λ (state : List Tern). ReadsChange moves.after.parts old.core.state state k ⊎ IsStale moves.after.parts k) after_is
            (subst (λ (state : List Tern). ReadsChange moves.after.parts state moves.after.state k ⊎ IsStale moves.after.parts k) before_is
            (moves.leads.marks k marked));
        touched = subst (TouchesChanged moves.after old.core.state) after_is
            (subst (λ (state : List Tern). TouchesChanged moves.after state moves.after.state) before_is moves.leads.touched);
      }

  -- a report
  pub by_report : RunsOn DidAct old Report new → BuildsMachine old new
  by_report (mid, built, same) = record {
    machine = built.machine;
    there = ap (λ (s : StageData). s.machine) same ∙ built.there;
    fits = subst (λ (g : GraphData). FitsGraph g built.machine) (sym graph) built.fits;
    moves = built.moves;
    placed = built.placed;
    stays = built.stays;
  }

-- a build leaves a machine that fits, and its counts
module _ (large : ℕ) (g : GraphData) (old mid : StageData) (built : BuiltFrom large g old mid) where
  built_fits : FitsIn g mid.machine
  built_fits = record { machine = built.machine; there = built.there; fits = built.fits }

  built_moves : moves_of mid.machine ≡ moves_of old.machine
  built_moves = ap moves_of built.there ∙ built.moves

  built_placed : placed_of mid.machine ≡ placed_of old.machine
  built_placed = ap placed_of built.there ∙ built.placed

-- phases behind a build, by the acts behind it
settled_by : (old new : HeldSession StageData) (run : Run) (settles : SettlesOn DidAct old run new) →
    new.core.circuit.graph ≡ old.core.circuit.graph →
    ((mid : StageData) → FitsIn old.core.circuit.graph mid.machine → Leads DidAct mid settles.acts new.stage →
    FitsIn old.core.circuit.graph new.stage.machine × MovesMachine old.core.limit mid.machine new.stage.machine settles.lines) → SettlesMachine old run new
settled_by old new run settles graph phases =
    let g = old.core.circuit.graph in
    let (mid, built, rest) = settles.leads in
    let (fits, moves) = phases mid (built_fits old.core.large g old.stage mid built) rest in
    record {
      mid = settles.mid;
      same = settles.same;
      lines = settles.lines;
      effect = settles.effect;
      built = subst (λ (h : GraphData). FitsIn h new.stage.machine) (sym graph) fits;
      moves = moves-from old.core.limit old.core.limit old.stage.machine mid.machine new.stage.machine settles.lines refl
          (built_moves old.core.large g old.stage mid built) (built_placed old.core.large g old.stage mid built) moves;
    }

-- the data behind the build have the circuit of those before it
mid_graph : (old : SessionData) (mid : SessionData) → mid ≡ record old { kept = mid.kept; fresh = mid.fresh } → mid.circuit.graph ≡ old.circuit.graph
mid_graph old mid same = ap (λ (s : SessionData). s.circuit.graph) same

-- a phase
pub by_phase : (old new : HeldSession StageData) → SettlesOn DidAct old Phase new → SettlesMachine old Phase new
by_phase old new settles =
    let graph = ap (λ (s : SessionData). s.circuit.graph) settles.effect.moved ∙ mid_graph old.core settles.mid settles.same in
    let are = subst (λ (s : SessionData). AreRunActs s Phase settles.lines settles.acts) settles.same settles.are in
    settled_by old new Phase settles graph (λ mid built rest. one mid are rest)
  where
    one : (mid : StageData) → (act : Act) × RestsBy old.core.circuit.graph old.core.limit settles.lines act × (settles.acts ≡ act ∷ []) →
        Leads DidAct mid settles.acts new.stage →
        FitsIn old.core.circuit.graph new.stage.machine × MovesMachine old.core.limit mid.machine new.stage.machine settles.lines
    one mid (act, rests, is) leads =
        let g = old.core.circuit.graph in
        let limit = old.core.limit in
        let (after, did, same) = subst (λ (some : List Act). Leads DidAct mid some new.stage) is leads in (
          subst (λ (s : StageData). FitsIn g s.machine) (sym same) (fits_after g limit settles.lines act mid after rests did),
          subst (λ (s : StageData). MovesMachine limit mid.machine s.machine settles.lines) (sym same)
              (moves_after g limit settles.lines act mid after rests did),
        )

-- cycles of clocks whose nodes are input nodes
pub by_cycle : (old new : HeldSession StageData) (times : ℕ) →
    All (λ clock. level_of old.core.circuit.graph clock.node ≡ INPUT_LEVEL) old.core.clocks → SettlesOn DidAct old (Cycle times) new →
    SettlesMachine old (Cycle times) new
by_cycle old new times inputs settles =
    let g = old.core.circuit.graph in
    let limit = old.core.limit in
    let clocks = old.core.clocks in
    let places = places_in (places_of clocks) times in
    let graph = circuit-beats (places_in (places_of settles.mid.clocks) times) settles.mid new.core settles.lines settles.effect
    ∙ mid_graph old.core settles.mid settles.same in
    let are : AreBeatActs g limit clocks places settles.lines settles.acts =
    subst (λ (s : SessionData). AreRunActs s (Cycle times) settles.lines settles.acts) settles.same settles.are in
    settled_by old new (Cycle times) settles graph
    (λ mid built rest. beats_by g limit clocks inputs places [] settles.lines settles.acts mid.machine mid new.stage built
    (moves-none limit mid.machine built.machine built.there) are rest)
