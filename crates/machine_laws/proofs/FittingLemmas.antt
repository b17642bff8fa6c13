-- A step of a machine that fits a graph is the graph's step, and the machine fits the graph again: a part that isn't marked afterwards
-- read no change, and its members took their steady states in this step or had them before, so they rest.
use Rattle.std.proofs.Common.{◌≡◌, ℕ, ◌<◌, ◌≤◌, ◌⊎◌, Bool, true, false, inl, inr, List, [], ◌∷◌, None, length, take, refl, sym, ap, subst, ◌∙◌, arith}
use Rattle.std.proofs.lemmas.Bool.{cases_lt}
use Rattle.group_text.specs.Texts.{GroupTextData}
use Rattle.ternary.specs.declared.tern.Tern.{Tern}
use Rattle.ternary.specs.Tern.{join}
use Rattle.switch_paths.specs.Switching.{state_at}
use Rattle.switch_paths.specs.Graphs.{GraphData, IsWired, nodes}
use Rattle.switch_paths.specs.Rails.{IsSound}
use Rattle.switch_paths.specs.Step.{IsResponse, IsStep}
use Rattle.switch_paths.proofs.ExistingSteps.{exists}
use Rattle.switch_paths.proofs.UniqueSteps.{response_is_unique}
use Rattle.group_meaning.specs.Groups.{Group}
use Rattle.group_rest.specs.Rest.{Rests, Responded, ReadsNoChange}
use Rattle.group_rest.proofs.RestingGroups.{unread_group_rests}
use Rattle.settling.specs.Settling.{IsJoinStep}
use Rattle.machine_parts.specs.declared.part.MachinePart.{MachinePart}
use Rattle.std.specs.Prelude.{Contains, Option, Some, slice_index_or}
use Rattle.vicinity.specs.Wides.{WideData}
use Rattle.wide_groups.specs.Moving.{touched_in, HasStaleOnly, MovesIn, RetouchesIn}
use Rattle.wide_groups.proofs.WideCases.{none_retouched, retouched_only}
use Rattle.machine_parts.specs.Parts.{Stands, HasMember}
use Rattle.machine_laws.specs.Machines.{MachineData, Advances, TouchesChanged}
use Rattle.machine_parts.specs.Marking.{IsMarked}
use Rattle.machine_parts.specs.Stepping.{ReadsChange}
use Rattle.machine_laws.specs.Fitting.{IsPartOf, IsHeldIn, IsOutside, Covers, FitsGraph}
use Rattle.machine_laws.specs.Columns.{KeepsMarks, AdvancesInColumn, ColumnsStepApart, ColumnsJoinApart, MarkedMachinesFit}
use Rattle.machine_laws.specs.Laws.{StepsAreUnitSteps, JoiningStepsAreJoinSteps}
use Rattle.machine_parts.proofs.CaseLemmas.{same_or_not, something}
use Rattle.machine_laws.proofs.HeldAgain.{held_again, stale_only_again}
use Rattle.machine_laws.proofs.PartGroups.{member_of_part}
use Rattle.machine_laws.proofs.HeldLemmas.{known_or_not, coded_without}
use Rattle.machine_laws.proofs.ResponseLemmas.{node_moves, input_stays, stale_stays, unmarked_stays, unmarked_response, member_is_storage}

-- no members rest anywhere
pub none_rest : (g : GraphData) (state : List Tern) (xs : List ℕ) (count : ℕ) → count ≤ 0 → Rests g state (take count xs)
none_rest g state xs count none node there =
    let is : count ≡ 0 = omega arith in
    let (k, inside, here) = rw is at there in
    absurd (omega (arith, inside))

-- a machine with other states, marks, counts, texts of the last build, room and groups that are stepped by vicinities covers the graph too, if its states are
-- as many, its stale parts are marked, its unmarked parts rest, and those groups are its own
pub covers_with : (g : GraphData) (m : MachineData) → Covers g m → (marks : List Bool) (state : List Tern) (last : List GroupTextData) (moved placed spare : ℕ)
    (wide : Option WideData) → length state ≡ nodes g →
    ((k : ℕ) (part : MachinePart) → Stands m.parts k part → 0 < part.members → part.code ≡ None → IsMarked marks k) →
    ((k : ℕ) (part : MachinePart) → Stands m.parts k part → ¬ IsMarked marks k → Rests g state (take part.members part.map.items)) →
    ((one : WideData) → wide ≡ Some one → HasStaleOnly m.parts one.graph) →
    ((one : WideData) → wide ≡ Some one → (k : ℕ) (part : MachinePart) → Stands m.parts k part → 0 < part.members → part.code ≡ None →
    IsHeldIn g state one (slice_index_or m.uses k None) part ⊎ IsOutside one.graph part) →
    Covers g (record m { marks = marks; state = state; last = last; moves = moved; placed = placed; spare = spare; wide = wide })
covers_with g m covers marks state last moved placed spare wide counted waits rests stale_only held = record {
  groups = covers.groups;
  kept = covers.kept;
  are = covers.are;
  counted = counted;
  each = covers.each;
  whole = covers.whole;
  apart = covers.apart;
  number = covers.number;
  known = covers.known;
  numbered = covers.numbered;
  textless = covers.textless;
  uses_counted = covers.uses_counted;
  quiet = covers.quiet;
  waits = waits;
  rests = rests;
  stale_only = stale_only;
  held = held;
}

-- a machine with other states, marks, counts and texts of the last build fits the graph too, where its stale parts are marked and its
-- unmarked parts rest
pub fits_with : (g : GraphData) (m : MachineData) (fits : FitsGraph g m) (marks : List Bool) (state : List Tern) (last : List GroupTextData) (moved placed : ℕ) (wide : Option WideData) →
    length state ≡ nodes g →
    ((k : ℕ) (part : MachinePart) → Stands m.parts k part → 0 < part.members → part.code ≡ None → IsMarked marks k) →
    ((k : ℕ) (part : MachinePart) → Stands m.parts k part → ¬ IsMarked marks k → Rests g state (take part.members part.map.items)) →
    ((one : WideData) → wide ≡ Some one → HasStaleOnly m.parts one.graph) →
    ((one : WideData) → wide ≡ Some one → (k : ℕ) (part : MachinePart) → Stands m.parts k part → 0 < part.members → part.code ≡ None →
    IsHeldIn g state one (slice_index_or m.uses k None) part) →
    (wide ≡ None → m.wide ≡ None) →
    IsSound state → FitsGraph g (record m { marks = marks; state = state; last = last; moves = moved; placed = placed; wide = wide })
fits_with g m fits marks state last moved placed wide counted waits rests stale_only held none sound = record {
  covers = covers_with g m fits.covers marks state last moved placed m.spare wide counted waits rests stale_only
      (λ one is k part stands some stale. inl (held one is k part stands some stale));
  coded = λ k part stands some stale.
      elim (known_or_not wide) [
        | inl (one, is) ↦ (one, is, held one is k part stands some stale)
        | inr gone ↦ absurd (coded_without g m fits (none gone) k part stands some stale)
      ];
  railed = fits.railed;
  sound = sound;
  texts = fits.texts;
}

module _ (g : GraphData) (wired : IsWired g) (old : MachineData) (fits : FitsGraph g old) (new : List Tern) where
  -- a plain step is the graph's step
  plain_step : MovesIn false old.parts old.marks old.wide old.state new → IsStep g old.state new
  plain_step moves = record {
    count = moves.count ∙ fits.covers.counted;
    each = λ node in_range.
        let to = node_moves g wired old fits false new moves node in_range in
        subst (IsResponse g old.state node) (sym to.moves) to.response;
  }

  -- a joining step is the graph's joining step
  joining_step : MovesIn true old.parts old.marks old.wide old.state new → IsJoinStep g old.state new
  joining_step moves =
      let (response, step) = exists g wired old.state in
      record {
        response = response;
        step = step;
        joins = record {
          left = moves.count;
          right = moves.count ∙ (fits.covers.counted ∙ sym step.count);
          each = λ node inside.
              let in_range : node < nodes g = omega (arith, moves.count, fits.covers.counted) in
              let to = node_moves g wired old fits true new moves node in_range in
              let same = response_is_unique g old.state node to.value (state_at response node) to.response (step.each node in_range) in
              to.moves ∙ ap (join (state_at old.state node)) same;
        };
      }

  module _ (joining : Bool) (moves : MovesIn joining old.parts old.marks old.wide old.state new) (marks : List Bool)
      (remarks : KeepsMarks joining old.parts old.marks old.state new marks) (wide : Option WideData)
      (retouches : RetouchesIn joining old.wide wide old.state new) where
    -- stale parts stay marked
    stale_marked : (k : ℕ) (part : MachinePart) → Stands old.parts k part → 0 < part.members → part.code ≡ None → IsMarked marks k
    stale_marked k part stands some none = by_kind joining remarks
      where
        by_kind : (joining : Bool) → KeepsMarks joining old.parts old.marks old.state new marks → IsMarked marks k
        by_kind true remarks = remarks.stays k (fits.covers.waits k part stands some none)
        by_kind false remarks =
            remarks.stays k (fits.covers.waits k part stands some none, record { part = part; stands = stands; some = some; none = none })

    -- the members of a part that isn't marked afterwards took their steady states, in this step or before
    responded : (k : ℕ) (part : MachinePart) → Stands old.parts k part → (¬ IsMarked marks k) → (group : Group) → IsPartOf g group part →
        Responded g old.state new group.members
    responded k part stands unmarked group is_part node member =
        let (place, there) = member_of_part g group part is_part node member in
        let has : HasMember old.parts k node = record { part = part; stands = stands; place = place; member = there } in
        let in_range = (member_is_storage g wired old fits k node has).inside in
        by_kind joining moves remarks has in_range
      where
        by_kind : (joining : Bool) → MovesIn joining old.parts old.marks old.wide old.state new → KeepsMarks joining old.parts old.marks old.state new marks →
            HasMember old.parts k node → node < nodes g → IsResponse g old.state node (state_at new node)
        by_kind false moves remarks has in_range = (plain_step moves).each node in_range
        by_kind true moves remarks has in_range =
            let before : ¬ IsMarked old.marks k = λ marked. unmarked (remarks.stays k marked) in
            subst (IsResponse g old.state node) (sym (unmarked_stays g wired old fits true new moves k node has before))
            (unmarked_response g wired old fits true new moves k node has before)

    -- and it read no change
    reads_no_change : (k : ℕ) (part : MachinePart) → Stands old.parts k part → 0 < part.members → (¬ IsMarked marks k) → (group : Group) →
        IsPartOf g group part → ReadsNoChange g group old.state new
    reads_no_change k part stands some unmarked group is_part node reads =
        let (code, is) = something part.code (λ none. unmarked (stale_marked k part stands some none)) in
        let contained = ((is_part.coded code is).reads node).1 reads in
        elim (same_or_not (state_at new node) (state_at old.state node)) [
          | inl same ↦ same
          | inr changed ↦
              let change : ReadsChange old.parts old.state new k = record {
                node = node;
                reads = record { part = part; stands = stands; reads = contained };
                changed = changed;
              } in
              absurd (unmarked (remarks.reads k change))
        ]

    -- so they rest
    part_rests : (k : ℕ) (part : MachinePart) → Stands old.parts k part → (¬ IsMarked marks k) → Rests g new (take part.members part.map.items)
    part_rests k part stands unmarked =
        elim (cases_lt 0 part.members) [
          | inl some ↦
              let (group, is_part) = fits.covers.whole k part stands some in
              let rests = unread_group_rests g group old.state new wired is_part.is_group (responded k part stands unmarked group is_part)
              (reads_no_change k part stands some unmarked group is_part) in
              subst (Rests g new) (sym is_part.members) rests
          | inr none ↦ none_rest g new part.map.items part.members none
        ]

    -- a plain step is the graph's
    plain : joining ≡ false → IsStep g old.state new
    plain is = plain_step (subst (λ (kind : Bool). MovesIn kind old.parts old.marks old.wide old.state new) is moves)

    -- the rails keep their states
    stays_sound : IsSound new
    stays_sound = record {
      gnd = input_stays g wired old fits joining new moves _ fits.railed.gnd ∙ fits.sound.gnd;
      vdd = input_stays g wired old fits joining new moves _ fits.railed.vdd ∙ fits.sound.vdd;
    }

    -- the machine with these states and marks fits the graph again
    pub fits_again : (moved placed : ℕ) → FitsGraph g (record old { marks = marks; state = new; moves = moved; placed = placed; wide = wide })
    fits_again moved placed =
        let inputs = input_stays g wired old fits joining new moves in
        let asleep = stale_stays g wired old fits joining new moves in
        fits_with g old fits marks new old.last moved placed wide (moves.count ∙ fits.covers.counted) stale_marked part_rests
        (stale_only_again g wired old fits joining new plain inputs asleep wide retouches)
        (held_again g wired old fits joining new plain inputs asleep wide retouches)
        (none_retouched joining old.wide wide old.state new retouches) stays_sound

-- a machine in which all but states, marks and counts are the same
pub same_machine : (old new : MachineData) → new.groups ≡ old.groups → new.parts ≡ old.parts → new.uses ≡ old.uses →
    new.texts ≡ old.texts → new.last ≡ old.last → new.spare ≡ old.spare →
    record old { marks = new.marks; state = new.state; moves = new.moves; placed = new.placed; wide = new.wide } ≡ new
same_machine old new groups parts uses texts last spare = λ i. record {
  groups = sym groups i;
  parts = sym parts i;
  uses = sym uses i;
  marks = new.marks;
  state = new.state;
  texts = sym texts i;
  last = sym last i;
  moves = new.moves;
  placed = new.placed;
  spare = sym spare i;
  wide = new.wide;
}

-- a machine that advanced fits the graph again, also with more marks than the step sets
FitsGraph-in_column : (g : GraphData) → IsWired g → (joining : Bool) (old new : MachineData) → FitsGraph g old → AdvancesInColumn joining old new →
    FitsGraph g new
FitsGraph-in_column g wired joining old new fits advances =
    subst (FitsGraph g) (same_machine old new advances.groups advances.parts advances.uses advances.texts advances.last advances.spare)
    (fits_again g wired old fits new.state joining advances.moves new.marks advances.marks new.wide advances.wide new.moves new.placed)

-- a step sets the marks that it needs
in_column : (joining : Bool) (old new : MachineData) → Advances joining old new → AdvancesInColumn joining old new
in_column joining old new advances = record {
  step = advances.step;
  marks = record { count = advances.marks.count; stays = advances.marks.stays; reads = advances.marks.reads };
}

-- after a plain step no more is touched than the ends of the switches that changed
pub touches_changed : (old new : MachineData) → Advances false old new → TouchesChanged new old.state new.state
touches_changed old new advances = retouched_only old.wide new.wide old.state new.state advances.wide

-- so if none changed nothing is
pub nothing_touched : (m : MachineData) (state : List Tern) → TouchesChanged m state state → touched_in m.wide ≡ []
nothing_touched m state only = none_in (touched_in m.wide) (λ node there. (only node there).changed refl)
  where
    none_in : (nodes : List ℕ) → ((node : ℕ) → ¬ Contains nodes node) → nodes ≡ []
    none_in [] none = refl
    none_in (node ∷ nodes) none = absurd (none node (0, omega arith, refl))

-- a step is the unit step
pub steps_are_unit_steps : StepsAreUnitSteps
steps_are_unit_steps g old new wired fits advances = (
  plain_step g wired old fits new.state advances.moves,
  FitsGraph-in_column g wired false old new fits (in_column false old new advances),
)

-- a joining step is the joining step
pub joining_steps_are_join_steps : JoiningStepsAreJoinSteps
joining_steps_are_join_steps g old new wired fits advances = (
  joining_step g wired old fits new.state advances.moves,
  FitsGraph-in_column g wired true old new fits (in_column true old new advances),
)

-- the same of one column of a machine of columns
pub columns_step_apart : ColumnsStepApart
columns_step_apart g old new wired fits advances =
    (plain_step g wired old fits new.state advances.moves, FitsGraph-in_column g wired false old new fits advances)

pub columns_join_apart : ColumnsJoinApart
columns_join_apart g old new wired fits advances =
    (joining_step g wired old fits new.state advances.moves, FitsGraph-in_column g wired true old new fits advances)

-- where all parts are marked none has to rest
pub marked_machines_fit : MarkedMachinesFit
marked_machines_fit g m marks state fits none all counted sound =
    fits_with g m fits marks state m.last m.moves m.placed m.wide counted (λ k part stands some stale. all k stands.inside)
    (λ k part stands unmarked. absurd (unmarked (all k stands.inside))) fits.covers.stale_only
    (λ one is. absurd (cc (none, is))) (λ is. is) sound
