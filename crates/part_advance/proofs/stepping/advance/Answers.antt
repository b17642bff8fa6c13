-- A step, from what was noted of it.
use Rattle.std.proofs.Common.{◌≡◌, ◌<◌, ◌++◌, true, inl, inr, ◌⊎◌, List, length, sym, subst, ◌∙◌, arith}
use Rattle.std.specs.Prelude.{Contains, Option, slice_index_or}
use Rattle.std.specs.Bool.{OnTrue, OnFalse}
use Rattle.std.proofs.lemmas.Bool.{OnTrue_from, OnTrue_at, OnFalse_from, OnFalse_at}
use Rattle.std.proofs.lemmas.List.{length-append}
use Rattle.std.proofs.lemmas.List.Elements.{Contains-get_or, Contains-append_left, Contains-append_right}
use Rattle.std.proofs.lemmas.List.Sums.{count_by-le-length}
use Rattle.ternary.specs.declared.tern.Tern.TheVariants.{Zero}
use Rattle.part_words.specs.declared.change.Change.{Change}
use Rattle.machine_parts.specs.Marking.{members_of, MarksAll}
use Rattle.part_steps.specs.Workspaces.{rooms}
use Rattle.machine_parts.specs.Evaluating.{IsSeated}
use Rattle.machine_parts.specs.Running.{AreAgreed, IsTaken, ReadsAny}
use Rattle.machine_parts.proofs.MarkLemmas.{marked_sum-within}
use Rattle.machine_parts.proofs.SetMarks.{marked_inside}
use Rattle.vicinity.specs.Wides.{WideData}
use Rattle.vicinity.proofs.TouchLemmas.{none_twice}
use Rattle.wide_groups.specs.Awake.{IsListedIn, CalmsIn, TurnedIn, ListsIn}
use Rattle.wide_groups.specs.Moving.{RetouchesIn}
use Rattle.wide_groups.proofs.WideCases.{listed_in, enough_in, listed_calm, listed_turned, holds_turned, TurnedIn-then, RetouchesIn-from}
use Rattle.part_steps.proofs.TakingLemmas.{IsTaken-then}
use Rattle.part_advance.proofs.AdvanceLemmas.{AreChanges, AreChanges-from_Evaluated, MarksAll-both, agreed_left, agreed_right, changes_inside, changes_agree, Moves-taken, some_change, no_change, lists_changes, becomes_x, Remarks-taken, cleared_rooms}
use Rattle.part_advance.proofs.stepping.advance.Given.{Over}
use Rattle.part_advance.proofs.stepping.advance.Goals.{After-evaluate_awake, After-calm, After-take_over, After-take_over-2}
use Rattle.part_advance.proofs.stepping.advance.Goals as goal

pub evaluate_all-requires : goal.evaluate_all-requires
evaluate_all-requires g c =
    let runs = c.requires.runnable in
    let parts = c.args.parts.now in
    let marks = c.args.agenda.now.marks in
    let same = cleared_rooms c.args.workspace.now c.clear.new.self c.clear-2.new.self c.clear.ensures.capacity c.clear-2.ensures.capacity in
    record {
      dense = c.requires.dense;
      counted = runs.counted;
      seated = λ k d inside. subst (λ room. IsSeated (length c.args.state.now) room (slice_index_or parts k d)) (sym same) (runs.seated k d inside);
      changes = c.clear.ensures.items;
      done = c.clear-2.ensures.items;
      changes_room = omega (arith, marked_sum-within members_of parts marks, runs.changes_room, c.clear.ensures.capacity);
      done_room = omega (arith, count_by-le-length (λ mark. mark) marks, runs.counted, runs.parts_room, c.clear-2.ensures.capacity);
    }

pub mark_again-requires : goal.mark_again-requires
mark_again-requires g c = λ k there.
    let done = subst (λ xs. Contains xs k) c.deref.ensures.value there in
    let marked = c.evaluate_all.ensures.evaluated.marked k done in
    omega (arith, marked_inside c.args.agenda.now.marks k marked, c.evaluate_all.ensures.count)

pub evaluate_awake-requires-clause-listed : goal.evaluate_awake-requires-clause-listed
evaluate_awake-requires-clause-listed g c = listed_in c.args.parts.now c.args.state.now _ c.args.wide.now c.requires.wide

pub evaluate_awake-requires-clause-room : goal.evaluate_awake-requires-clause-room
evaluate_awake-requires-clause-room g c = enough_in c.args.parts.now c.args.state.now _ c.args.wide.now c.requires.wide

-- the changes that were noted are those that the marked parts make, and those of the nodes that are awake
are_changes : (g : Over) (c : After-evaluate_awake g) →
    AreChanges c.args.joining c.args.parts.now c.args.agenda.now.marks c.args.wide.now c.args.state.now
    (c.evaluate_all.new.workspace.changes.items ++ c.evaluate_awake.new.noted.items)
are_changes g c =
    AreChanges-from_Evaluated c.args.joining c.args.parts.now c.args.agenda.now.marks c.args.agenda.now.waiting c.args.state.now c.args.readers.now
    (rooms c.args.workspace.now) c.requires.runnable c.args.wide.now _ c.requires.wide c.evaluate_all.new.agenda.marks
    c.evaluate_all.new.workspace.changes.items c.evaluate_awake.new.noted.items
    c.evaluate_all.new.workspace.done.items c.evaluate_all.ensures.evaluated c.evaluate_all.ensures.rest c.evaluate_awake.ensures.notes

inside_all : (g : Over) (c : After-evaluate_awake g) → (change : Change) →
    Contains (c.evaluate_all.new.workspace.changes.items ++ c.evaluate_awake.new.noted.items) change → change.node < length c.args.state.now
inside_all g c = changes_inside c.args.joining _ _ _ _ _ _ c.requires.runnable _ _ c.requires.wide _ (are_changes g c)

agreed_all : (g : Over) (c : After-evaluate_awake g) → AreAgreed (c.evaluate_all.new.workspace.changes.items ++ c.evaluate_awake.new.noted.items)
agreed_all g c = changes_agree c.args.joining _ _ _ _ _ _ c.requires.runnable _ _ c.requires.wide _ (are_changes g c)

-- before the changes are taken over the lists are those of the states
calm_listed : (g : Over) (c : After-calm g) → IsListedIn c.args.state.now c.calm.new.wide
calm_listed g c =
    listed_calm c.args.state.now c.args.joining c.evaluate_awake.new.wide c.calm.new.wide c.calm.ensures
    (subst (IsListedIn c.args.state.now) (sym c.evaluate_awake.ensures.same) (listed_in c.args.parts.now c.args.state.now _ c.args.wide.now c.requires.wide))

pub take_over-requires : goal.take_over-requires
take_over-requires g c =
    let noted = (goal.at.take_over-requires g c).After-evaluate_awake in
    let runs = c.requires.runnable in
    let xs = c.evaluate_all.new.workspace.changes.items in
    let ys = c.evaluate_awake.new.noted.items in
    record {
      inside = λ change there.
          inside_all g noted change (Contains-append_left xs ys change (subst (λ list. Contains list change) c.deref-2.ensures.value there));
      agreed = subst AreAgreed (sym c.deref-2.ensures.value) (agreed_left xs ys (agreed_all g noted));
      readers = runs.readers_counted;
      parts = λ node k there.
          let reads = runs.reads node k there in
          omega (arith, reads.stands.inside, runs.counted, c.evaluate_all.ensures.count, c.mark_again.ensures.marks.count);
      wide = calm_listed g (goal.at.take_over-requires g c).After-calm;
    }

-- the first changes are taken over, and the others after them
first_taken : (g : Over) (c : After-take_over g) → IsTaken c.evaluate_all.new.workspace.changes.items c.args.state.now c.take_over.new.state
first_taken g c = subst (λ xs. IsTaken xs c.args.state.now c.take_over.new.state) c.deref-2.ensures.value c.take_over.ensures.taken

pub take_over-requires-2 : goal.take_over-requires-2
take_over-requires-2 g c =
    let noted = (goal.at.take_over-requires-2 g c).After-evaluate_awake in
    let runs = c.requires.runnable in
    let xs = c.evaluate_all.new.workspace.changes.items in
    let ys = c.evaluate_awake.new.noted.items in
    let count = (first_taken g (goal.at.take_over-requires-2 g c).After-take_over).count in
    record {
      inside = λ change there.
          let inside = inside_all g noted change (Contains-append_right xs ys change (subst (λ list. Contains list change) c.deref-3.ensures.value there)) in
          omega (arith, inside, count);
      agreed = subst AreAgreed (sym c.deref-3.ensures.value) (agreed_right xs ys (agreed_all g noted));
      readers = runs.readers_counted ∙ sym count;
      parts = λ node k there.
          let reads = runs.reads node k there in
          omega (arith, reads.stands.inside, runs.counted, c.evaluate_all.ensures.count, c.mark_again.ensures.marks.count, c.take_over.ensures.marks.count);
      wide = listed_turned c.calm.new.wide c.take_over.new.wide c.args.state.now c.take_over.new.state c.take_over.ensures.turned count
          (calm_listed g (goal.at.take_over-requires-2 g c).After-calm);
    }

all_taken : (g : Over) (c : After-take_over-2 g) → AreAgreed (c.evaluate_all.new.workspace.changes.items ++ c.evaluate_awake.new.noted.items) →
    IsTaken c.evaluate_all.new.workspace.changes.items c.args.state.now c.take_over.new.state →
    IsTaken (c.evaluate_all.new.workspace.changes.items ++ c.evaluate_awake.new.noted.items) c.args.state.now c.take_over-2.new.state
all_taken g c agreed first =
    IsTaken-then c.evaluate_all.new.workspace.changes.items c.evaluate_awake.new.noted.items c.args.state.now c.take_over.new.state
    c.take_over-2.new.state
    agreed first (subst (λ ys. IsTaken ys c.take_over.new.state c.take_over-2.new.state) c.deref-3.ensures.value c.take_over-2.ensures.taken)

pub returns-clause-moves : goal.returns-clause-moves
returns-clause-moves g c =
    let at_end = goal.at.returns-clause-moves g c in
    let noted = at_end.After-evaluate_awake in
    Moves-taken c.args.joining _ _ _ _ _ _ c.requires.runnable _ _ c.requires.wide _ (are_changes g noted) _
    (all_taken g at_end.After-take_over-2 (agreed_all g noted) (first_taken g at_end.After-take_over))

pub returns-clause-marks : goal.returns-clause-marks
returns-clause-marks g c =
    let at_end = goal.at.returns-clause-marks g c in
    let noted = at_end.After-evaluate_awake in
    let e = c.evaluate_all.ensures in
    let done = c.evaluate_all.new.workspace.done.items in
    let xs = c.evaluate_all.new.workspace.changes.items in
    let ys = c.evaluate_awake.new.noted.items in
    let first = c.evaluate_all.new.agenda.marks in
    let second = c.mark_again.new.agenda.marks in
    let third = c.take_over.new.agenda.marks in
    let fourth = c.take_over-2.new.agenda.marks in
    let again = subst (λ xs. MarksAll (λ k. (c.args.joining ≡ true) × Contains xs k) first second) c.deref.ensures.value c.mark_again.ensures.marks in
    let read = subst (λ xs. MarksAll (ReadsAny c.args.readers.now xs) second third) c.deref-2.ensures.value c.take_over.ensures.marks in
    let read_too = subst (λ ys. MarksAll (ReadsAny c.args.readers.now ys) third fourth) c.deref-3.ensures.value c.take_over-2.ensures.marks in
    Remarks-taken c.args.joining _ _ _ _ _ _ c.requires.runnable _ _ c.requires.wide _ (are_changes g noted) _
    (all_taken g at_end.After-take_over-2 (agreed_all g noted) (first_taken g at_end.After-take_over))
    first second fourth xs done e.evaluated e.rest e.count again (MarksAll-both c.args.readers.now xs ys second third fourth read read_too)

-- both together turn the lists
both_turned : (g : Over) (c : After-take_over-2 g) → AreAgreed (c.evaluate_all.new.workspace.changes.items ++ c.evaluate_awake.new.noted.items) →
    IsTaken c.evaluate_all.new.workspace.changes.items c.args.state.now c.take_over.new.state →
    TurnedIn c.calm.new.wide c.take_over-2.new.wide c.args.state.now c.take_over-2.new.state
both_turned g c agreed first =
    let xs = c.evaluate_all.new.workspace.changes.items in
    let ys = c.evaluate_awake.new.noted.items in
    let next = subst (λ ys. IsTaken ys c.take_over.new.state c.take_over-2.new.state) c.deref-3.ensures.value c.take_over-2.ensures.taken in
    TurnedIn-then c.calm.new.wide c.take_over.new.wide c.take_over-2.new.wide c.args.state.now c.take_over.new.state c.take_over-2.new.state
    (none_twice xs ys c.args.state.now c.take_over.new.state c.take_over-2.new.state
    (λ one two here there. agreed one two (Contains-append_left xs ys one here) (Contains-append_right xs ys two there)) first next)
    c.take_over.ensures.turned c.take_over-2.ensures.turned

pub returns-clause-retouches : goal.returns-clause-retouches
returns-clause-retouches g c =
    let at_end = goal.at.returns-clause-retouches g c in
    RetouchesIn-from c.args.joining c.args.wide.now c.calm.new.wide c.take_over-2.new.wide c.args.state.now c.take_over-2.new.state
    (subst ListsIn c.evaluate_awake.ensures.same c.touched_is_listed.ensures)
    (subst (λ (wide : Option WideData). CalmsIn c.args.joining wide c.calm.new.wide) c.evaluate_awake.ensures.same c.calm.ensures)
    (both_turned g at_end.After-take_over-2 (agreed_all g at_end.After-evaluate_awake) (first_taken g at_end.After-take_over)) c.touched_is_listed-2.ensures

pub returns-clause-holds : goal.returns-clause-holds
returns-clause-holds g c =
    let at_end = goal.at.returns-clause-holds g c in
    let old = c.args.state.now in
    let new = c.take_over-2.new.state in
    let count : length new ≡ length old = c.take_over-2.ensures.taken.count ∙ c.take_over.ensures.taken.count in
    let turned = both_turned g at_end.After-take_over-2 (agreed_all g at_end.After-evaluate_awake) (first_taken g at_end.After-take_over) in
    let listed : IsListedIn new c.take_over-2.new.wide =
    listed_turned c.calm.new.wide c.take_over-2.new.wide old new turned count (calm_listed g at_end.After-calm) in
    let retouches : RetouchesIn c.args.joining c.args.wide.now c.take_over-2.new.wide old new =
    RetouchesIn-from c.args.joining c.args.wide.now c.calm.new.wide c.take_over-2.new.wide old new
    (subst ListsIn c.evaluate_awake.ensures.same c.touched_is_listed.ensures)
    (subst (λ (wide : Option WideData). CalmsIn c.args.joining wide c.calm.new.wide) c.evaluate_awake.ensures.same c.calm.ensures)
    turned c.touched_is_listed-2.ensures in
    rw c.evaluate_awake.ensures.capacity
    (holds_turned c.args.parts.now old new _ c.args.wide.now c.take_over-2.new.wide c.args.joining retouches count listed c.requires.wide)

pub returns-clause-rooms : goal.returns-clause-rooms
returns-clause-rooms g c =
    c.evaluate_all.ensures.rooms
    ∙ cleared_rooms c.args.workspace.now c.clear.new.self c.clear-2.new.self c.clear.ensures.capacity c.clear-2.ensures.capacity

pub returns-clause-steps : goal.returns-clause-steps
returns-clause-steps g c = record {
  between = c.evaluate_all.new.steps;
  coded = c.evaluate_all.ensures.steps;
  awake = c.evaluate_awake.ensures.looks;
}

-- some change was noted
first_of : (changes : List Change) → 0 < length changes → (change : Change) × Contains changes change
first_of changes some = let none : Change = record { node = 0; value = Zero } in (slice_index_or changes 0 none, Contains-get_or changes 0 none some)

pub returns-clause-changed : goal.returns-clause-changed
returns-clause-changed g c =
    let at_end = goal.at.returns-clause-changed g c in
    let noted = at_end.After-evaluate_awake in
    let xs = c.evaluate_all.new.workspace.changes.items in
    let ys = c.evaluate_awake.new.noted.items in
    let changes_it = some_change c.args.joining _ _ _ _ _ _ c.requires.runnable _ _ c.requires.wide _ (are_changes g noted) _
    (all_taken g at_end.After-take_over-2 (agreed_all g noted) (first_taken g at_end.After-take_over)) in
    let some : OnTrue c.is_any.result ((0 < length xs) ⊎ (0 < length ys)) = rw (c.deref-4.ensures.value, c.deref-5.ensures.value) at c.is_any.ensures.some in
    OnTrue_from _ _ (λ set.
    elim (OnTrue_at {P = (0 < length xs) ⊎ (0 < length ys)} set some) [
      | inl in_first ↦ let (change, there) = first_of xs in_first in changes_it change (Contains-append_left xs ys change there)
      | inr in_second ↦ let (change, there) = first_of ys in_second in changes_it change (Contains-append_right xs ys change there)
    ])

pub returns-clause-same : goal.returns-clause-same
returns-clause-same g c =
    let at_end = goal.at.returns-clause-same g c in
    let noted = at_end.After-evaluate_awake in
    let xs = c.evaluate_all.new.workspace.changes.items in
    let ys = c.evaluate_awake.new.noted.items in
    let none : OnFalse c.is_any.result ((length xs ≡ 0) × (length ys ≡ 0)) = rw (c.deref-4.ensures.value, c.deref-5.ensures.value) at c.is_any.ensures.none in
    OnFalse_from _ _ (λ unset.
    let (no_first, no_second) = OnFalse_at {P = (length xs ≡ 0) × (length ys ≡ 0)} unset none in
    no_change c.args.joining _ _ _ _ _ _ c.requires.runnable _ _ c.requires.wide _ (are_changes g noted) _
    (all_taken g at_end.After-take_over-2 (agreed_all g noted) (first_taken g at_end.After-take_over))
    (length-append xs ys ∙ omega (arith, no_first, no_second)))

pub returns-clause-unknown : goal.returns-clause-unknown
returns-clause-unknown g c = λ is.
    let at_end = goal.at.returns-clause-unknown g c in
    let noted = at_end.After-evaluate_awake in
    becomes_x c.args.joining _ _ _ _ _ _ c.requires.runnable _ _ c.requires.wide _ (are_changes g noted) _
    (all_taken g at_end.After-take_over-2 (agreed_all g noted) (first_taken g at_end.After-take_over)) is

pub returns-clause-listed : goal.returns-clause-listed
returns-clause-listed g c =
    let at_end = goal.at.returns-clause-listed g c in
    let noted = at_end.After-evaluate_awake in
    lists_changes c.args.joining _ _ _ _ _ _ c.requires.runnable _ _ c.requires.wide _ (are_changes g noted) _
    (all_taken g at_end.After-take_over-2 (agreed_all g noted) (first_taken g at_end.After-take_over))
