-- A run beside a good one: where it begins, what a phase makes of it, and what a node that is given a state makes of it.
use Rattle.std.proofs.Common.{◌≡◌, ◌≢◌, ℕ, zero, suc, ◌<◌, ◌≤◌, inl, inr, Bool, true, false, List, length, replicate, None, Some, refl, sym, ap, subst, ◌∙◌}
use Rattle.std.specs.Prelude.{Contains, slice_index_or, slice_set}
use Rattle.std.proofs.lemmas.List.{ext_get_or, get_or-replicate, get_or-set_other, length-replicate, length-set}
use Rattle.ternary.specs.declared.tern.Tern.{Tern}
use Rattle.ternary.specs.declared.tern.Tern.TheVariants.{Zero}
use Rattle.switch_paths.specs.declared.TheConstants.{RAILS}
use Rattle.switch_paths.specs.Graphs.{GraphData}
use Rattle.switch_paths.specs.Rails.{IsSound}
use Rattle.switch_paths.specs.Switching.{state_at}
use Rattle.settling.specs.Passing.{SettlesThrough, last_state}
use Rattle.part_words.specs.declared.change.Change.{Change}
use Rattle.machine_parts.specs.Marking.{IsMarked}
use Rattle.machine_parts.specs.Parts.{Stands}
use Rattle.machine_parts.specs.Running.{IsTaken}
use Rattle.machine_parts.proofs.CaseLemmas.{true_or_not}
use Rattle.machine_parts.proofs.SetMarks.{marked-set, marked-stays, marked-set_cases}
use Rattle.vicinity.specs.NodeSets.{NodeSetData, IsIn}
use Rattle.machine_laws.specs.Machines.{MachineData, KeepsBuild, KeepsParts}
use Rattle.machine_laws.specs.Fitting.{FitsGraph}
use Rattle.machine_laws.proofs.FittingLemmas.{fits_with}
use Rattle.machine_laws.proofs.HeldLemmas.{held_at}
use Rattle.good_run.specs.Recording.{RunData, state_before}
use Rattle.unit_step.specs.Restarting.{MarksParts, Restarts}
use Rattle.beside.specs.Fitting.{FitsBeside, all_marked}
use Rattle.beside.specs.Laws.{GoBack}
use Rattle.beside.proofs.StartLemmas.{goes_back_beside}
use Rattle.beside_phases.specs.Counting.{SettlesSeen}
use Rattle.beside_phases.proofs.CountingLemmas.{build_on, held_on}
use Rattle.beside_run.specs.Running.{AreAlikeBut, BeginsPhase, BeginsRun, BesideData, IsRunBeside, LagsAt, Leaves, SettlesRun, StartsBeside, StaysOrComes}
use Rattle.beside_run.proofs.BeginningLemmas.{rails_same}

-- ---- where it begins

-- a machine that fits beside a good run where that starts begins beside it
pub begins_run : (g : GraphData) (run : RunData) (h : GraphData) (m : MachineData) (b : BesideData) → FitsBeside g h run.start b.apart.inside m →
    IsSound run.start → AreAlikeBut g h m b.touched.inside → b.good ≡ run.start → b.at ≡ 0 → length b.touched.inside ≡ length m.parts →
    length b.room.inside ≡ length m.parts → length b.given.inside ≡ length m.state → ((node : ℕ) → ¬ IsIn b.given.inside node) →
    IsRunBeside g run h m m.state b
begins_run g run h m b fits sound alike good_is at_is touched room given none = record {
  fits = subst (λ good. FitsBeside g h good b.apart.inside m) (sym good_is) fits;
  here = good_is ∙ ap (state_before run) (sym at_is);
  sound = subst IsSound (sym good_is) sound;
  touched_counted = touched;
  room_counted = room;
  given_counted = given;
  state_counted = refl;
  lags = λ node out. refl;
  free = λ node is. absurd (none node is);
  alike = alike;
}

-- a machine of which all parts are marked fits what it fitted
pub marked_fits : (h : GraphData) (m : MachineData) (marks : List Bool) → FitsGraph h m → ((k : ℕ) → k < length m.parts → IsMarked marks k) →
    FitsGraph h (record m { marks = marks })
marked_fits h m marks fits all =
    fits_with h m fits marks m.state m.last m.moves m.placed m.wide fits.covers.counted (λ k part stands some none. all k stands.inside)
    (λ k part stands unmarked. absurd (unmarked (all k stands.inside))) fits.covers.stale_only
    (λ one is k part stands some stale. held_at h m fits one is k part stands some stale) (λ is. is) fits.sound

-- no node is in an empty set
pub none_in : (count node : ℕ) → ¬ IsIn (replicate count false) node
none_in zero node is = absurd (cc (is))
none_in (suc count) zero is = absurd (cc (is))
none_in (suc count) (suc node) is = none_in count node is

-- ---- a phase

-- the changes of the look with which the phase begins change no rail
pub rails_stay : (good next : List Tern) (changes : List Change) → IsSound good → IsSound next → IsTaken changes good next →
    (change : Change) → Contains changes change → change.node < RAILS → state_at good change.node ≡ change.value
rails_stay good next changes sound sound_too taken change there rail = rails_same good next sound sound_too change.node rail ∙ taken.taken change there

-- the nodes that lag are those that were given states
pub lags_given : (state old now : List Tern) (given : NodeSetData) → ((node : ℕ) → (¬ IsIn given.inside node) → state_at old node ≡ state_at state node) →
    StaysOrComes state old now → ((node : ℕ) → IsIn given.inside node → Contains given.list node) → LagsAt given.list state now
lags_given state old now given lags comes listed node =
    elim (comes node) [
      | inr is_meant ↦ inl is_meant
      | inl stays ↦ elim (true_or_not (slice_index_or given.inside node false)) [
        | inl there ↦ inr (listed node there)
        | inr out ↦ inl (stays ∙ lags node out)
      ]
    ]

-- parts that stand alike still do in a machine that keeps its parts
pub alike_held : (g h : GraphData) (old new : MachineData) (touched : List Bool) → new.parts ≡ old.parts → AreAlikeBut g h old touched → AreAlikeBut g h new touched
alike_held g h old new touched parts alike k part stands out group is_part =
    alike k part (subst (λ list. Stands list k part) parts stands) out group is_part

-- a phase that settled, and parts that went back
pub settles_run : {S : Type 0} (see : S → List Tern → S) (g : GraphData) (run : RunData) (h : GraphData) (limit steps : ℕ) (joined : Bool) (old mid new : MachineData)
    (state : List Tern) (b : BesideData) (at place : ℕ) (good_mid good_new : List Tern) (apart_mid apart apart_new room_new given_new : NodeSetData)
    (before after : S) → IsRunBeside g run h old state b →
    BeginsPhase g run h at old mid state good_mid apart_mid b.given given_new → SettlesSeen see g h limit steps joined mid new good_new apart.inside before after →
    good_new ≡ state_before run place → IsSound (state_before run place) → GoBack b.touched.inside new good_new apart.inside apart_new.inside →
    length room_new.inside ≡ length b.room.inside →
    SettlesRun see g run h limit steps joined old new state
    (record { good = good_new; at = place; apart = apart_new; touched = b.touched; room = room_new; given = given_new }) before after
settles_run see g run h limit steps joined old mid new state b at place good_mid good_new apart_mid apart apart_new room_new given_new before after is
    begins settles here sound back room_counted =
    let begun = begins.places in
    let parts : new.parts ≡ old.parts = settles.held.parts ∙ begun.held.parts in
    let counted : length new.state ≡ length old.state = settles.fits.fits.covers.counted ∙ sym is.fits.fits.covers.counted in
    let start : mid.state ≡ state = begins.state_is in
    let alike = alike_held g h old new b.touched.inside parts is.alike in
    record {
      is = record {
        fits = goes_back_beside g h good_new b.touched.inside apart.inside apart_new.inside new settles.fits alike back;
        here = here;
        sound = subst IsSound (sym here) sound;
        touched_counted = is.touched_counted ∙ sym (ap length parts);
        room_counted = room_counted ∙ (is.room_counted ∙ sym (ap length parts));
        given_counted = begins.given_counted ∙ (is.given_counted ∙ sym counted);
        state_counted = refl;
        lags = λ node out. refl;
        free = λ node given. absurd (begins.given_none node given);
        alike = alike;
      };
      last_is = settles.build.last ∙ begun.build.last;
      passed = settles.passed;
      through = subst (λ s. SettlesThrough h s limit settles.passed joined) start settles.through;
      last = settles.last ∙ ap (λ s. last_state s settles.passed) start;
      number = settles.number;
      seen = settles.seen;
    }

-- ---- a node that is given a state

pub gives_run : (g : GraphData) (run : RunData) (h : GraphData) (m : MachineData) (state : List Tern) (b : BesideData) (node : ℕ) (value : Tern) (given_new : NodeSetData) →
    RAILS ≤ node → node < length m.state → IsRunBeside g run h m state b → given_new.inside ≡ slice_set b.given.inside node true →
    IsRunBeside g run h m (slice_set state node value) (record b { given = given_new })
gives_run g run h m state b node value given_new no_rail inside is set = record {
  fits = is.fits;
  here = is.here;
  sound = is.sound;
  touched_counted = is.touched_counted;
  room_counted = is.room_counted;
  given_counted = ap length set ∙ (length-set b.given.inside node true ∙ is.given_counted);
  state_counted = length-set state node value ∙ is.state_counted;
  lags = λ n out.
      let other : n ≢ node = λ same. out (subst (λ marks. IsMarked marks n) (sym set)
      (subst (IsMarked (slice_set b.given.inside node true)) (sym same) (marked-set b.given.inside node (subst (λ k. node < k) (sym is.given_counted) inside)))) in
      is.lags n (λ was. out (subst (λ marks. IsMarked marks n) (sym set) (marked-stays b.given.inside node n was)))
      ∙ sym (get_or-set_other state node n value Zero other);
  free = λ n given. elim (marked-set_cases b.given.inside node n (subst (λ marks. IsMarked marks n) set given)) [
    | inl was ↦ is.free n was
    | inr same ↦ subst (λ k. RAILS ≤ k) (sym same) no_rail
  ];
  alike = is.alike;
}

-- ---- a run that goes on by itself

-- with all parts marked a machine is the one that is meant so
pub marked_is : (old new : MachineData) → length old.marks ≡ length old.parts → MarksParts old new → new ≡ all_marked old
marked_is old new counted marks =
    let count : length new.marks ≡ length (replicate (length old.parts) true) =
    marks.marks.count ∙ (counted ∙ sym (length-replicate (length old.parts) true)) in
    let all : new.marks ≡ replicate (length old.parts) true =
    ext_get_or false new.marks (replicate (length old.parts) true) count (λ k inside.
    let below : k < length old.parts = subst (λ n. k < n) (marks.marks.count ∙ counted) inside in
    marks.marks.set k below ∙ sym (get_or-replicate (length old.parts) k true false below)) in
    marks.rest ∙ ap (λ (list : List Bool). record old { marks = list }) all

-- so it fits its graph, and goes on in the state
pub leaves_so : (h : GraphData) (state : List Tern) (old mid new : MachineData) → FitsGraph h (all_marked old) → length old.marks ≡ length old.parts →
    MarksParts old mid → Restarts h state mid new → Leaves h state old new
leaves_so h state old mid new fits counted marks restarts =
    let is = marked_is old mid counted marks in
    record {
      fits = restarts.fits (subst (FitsGraph h) (sym is) fits);
      state_is = restarts.state_is;
      build = build_on old mid new (subst (KeepsBuild old) (sym marks.rest) (record { groups = refl; last = refl; spare = refl })) restarts.build;
      held = held_on old mid new (subst (KeepsParts old) (sym marks.rest) (record { parts = refl; uses = refl; texts = refl })) restarts.held;
    }

-- ---- a run that begins, if there is memory

-- what keeps all but its marks keeps its parts, and what its last build left
starts_build : (old new : MachineData) → StartsBeside old new → KeepsBuild old new
starts_build old new starts = subst (KeepsBuild old) (sym starts.same) (record { groups = refl; last = refl; spare = refl })

starts_held : (old new : MachineData) → StartsBeside old new → KeepsParts old new
starts_held old new starts = subst (KeepsParts old) (sym starts.same) (record { parts = refl; uses = refl; texts = refl })

-- a run began
pub begins_so : (g : GraphData) (run : RunData) (h : GraphData) (old new : MachineData) (b : BesideData) → StartsBeside old new →
    IsRunBeside g run h new new.state b → BeginsRun g run h old new (Some b)
begins_so g run h old new b starts is = record {
  goes = subst (λ s. IsRunBeside g run h new s b) (ap (λ (m : MachineData). m.state) starts.same) is;
  build = starts_build old new starts;
  held = starts_held old new starts;
}

-- none began: with all its parts marked the machine fits its graph
pub may_leave : (h : GraphData) (old new : MachineData) → FitsGraph h old → StartsBeside old new → FitsGraph h (all_marked new)
may_leave h old new fits starts =
    subst (FitsGraph h) (sym (ap (λ (m : MachineData). all_marked m) starts.same))
    (marked_fits h old (replicate (length old.parts) true) fits (λ k inside. get_or-replicate (length old.parts) k true false inside))

-- so it goes by itself
pub begins_alone : (g : GraphData) (run : RunData) (h : GraphData) (old mid new : MachineData) → StartsBeside old mid → Leaves h old.state mid new →
    BeginsRun g run h old new None
begins_alone g run h old mid new starts leaves = record {
  goes = (leaves.fits, leaves.state_is);
  build = build_on old mid new (starts_build old mid starts) leaves.build;
  held = held_on old mid new (starts_held old mid starts) leaves.held;
}
