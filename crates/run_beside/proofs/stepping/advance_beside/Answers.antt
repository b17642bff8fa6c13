-- A step beside the good run's, from what was noted of it.
use Rattle.std.proofs.Common.{◌≡◌, ◌<◌, ◌++◌, true, inl, inr, ◌⊎◌, List, length, sym, subst, ◌∙◌, arith}
use Rattle.std.specs.Prelude.{Contains, Option, ℕ, slice_index_or}
use Rattle.std.specs.Bool.{OnTrue, OnFalse}
use Rattle.std.proofs.lemmas.Bool.{OnTrue_from, OnTrue_at, OnFalse_from, OnFalse_at}
use Rattle.std.proofs.lemmas.List.{length-append}
use Rattle.std.proofs.lemmas.List.Elements.{Contains-get_or, Contains-append_left, Contains-append_right}
use Rattle.std.proofs.lemmas.List.Sums.{count_by-le-length}
use Rattle.ternary.specs.declared.tern.Tern.TheVariants.{Zero}
use Rattle.part_words.specs.declared.change.Change.{Change}
use Rattle.machine_parts.specs.Marking.{members_of, MarksAll}
use Rattle.part_steps.specs.Workspaces.{rooms}
use Rattle.machine_parts.specs.Evaluating.{IsSeated}
use Rattle.machine_parts.specs.Running.{AreAgreed, IsTaken}
use Rattle.machine_parts.proofs.MarkLemmas.{marked_sum-within}
use Rattle.machine_parts.proofs.SetMarks.{marked_inside}
use Rattle.vicinity.specs.Wides.{WideData}
use Rattle.vicinity.proofs.TouchLemmas.{NoneTwice, none_twice}
use Rattle.wide_groups.specs.Moving.{RetouchesIn}
use Rattle.wide_groups.specs.Awake.{IsListedIn, CalmsIn, TurnedIn, ListsIn}
use Rattle.wide_groups.proofs.WideCases.{listed_in, enough_in, listed_calm, listed_turned, holds_turned, TurnedIn-then, RetouchesIn-from}
use Rattle.part_steps.proofs.TakingLemmas.{IsTaken-then}
use Rattle.part_advance.proofs.AdvanceLemmas.{AreChanges, AreChanges-from_Evaluated, agreed_left, agreed_right, changes_inside, changes_agree, cleared_rooms}
use Rattle.run_beside.specs.Following.{IsWritten, FollowsAt}
use Rattle.run_beside.specs.Near.{AreNearIn, IsFar}
use Rattle.run_beside.specs.Noticing.{IsConcerned, NoticesBoth}
use Rattle.run_beside.proofs.NearLemmas.{far_follows, far_unread, fits_parts}
use Rattle.run_beside.proofs.NoticingLemmas.{NoticesBoth-from, NoticesChanges-then}
use Rattle.run_beside.proofs.KeepingApart.{steps_keep}
use Rattle.run_beside.proofs.AdvancingLemmas.{once, moves_beside, own_moves, still_beside, remarks_beside}
use Rattle.run_beside.proofs.stepping.advance_beside.Given.{Over}
use Rattle.run_beside.proofs.stepping.advance_beside.Goals.{After-evaluate_awake, After-calm, After-look_near, After-follow-span, After-write_all, After-write_all-2, After-notice-2}
use Rattle.run_beside.proofs.stepping.advance_beside.Goals as goal

pub evaluate_all-requires : goal.evaluate_all-requires
evaluate_all-requires g c =
    let runs = c.requires.runnable in
    let parts = c.args.parts.now in
    let marks = c.args.agenda.now.marks in
    let same = cleared_rooms c.args.workspace.now c.clear.new.self c.clear-2.new.self c.clear.ensures.capacity c.clear-2.ensures.capacity in
    record {
      dense = c.requires.dense;
      counted = runs.counted;
      seated = λ k d inside. subst (λ room. IsSeated (length c.args.bad.now) room (slice_index_or parts k d)) (sym same) (runs.seated k d inside);
      changes = c.clear.ensures.items;
      done = c.clear-2.ensures.items;
      changes_room = omega (arith, marked_sum-within members_of parts marks, runs.changes_room, c.clear.ensures.capacity);
      done_room = omega (arith, count_by-le-length (λ mark. mark) marks, runs.counted, runs.parts_room, c.clear-2.ensures.capacity);
    }

pub mark_again-requires : goal.mark_again-requires
mark_again-requires g c = λ k there.
    let done = subst (λ xs. Contains xs k) c.deref.ensures.value there in
    let marked = c.evaluate_all.ensures.evaluated.marked k done in
    omega (arith, marked_inside c.args.agenda.now.marks k marked, c.evaluate_all.ensures.count)

pub evaluate_awake-requires-clause-listed : goal.evaluate_awake-requires-clause-listed
evaluate_awake-requires-clause-listed g c = listed_in c.args.parts.now c.args.bad.now _ c.args.wide.now c.requires.wide

pub evaluate_awake-requires-clause-room : goal.evaluate_awake-requires-clause-room
evaluate_awake-requires-clause-room g c = enough_in c.args.parts.now c.args.bad.now _ c.args.wide.now c.requires.wide

-- the changes that were noted are those that the marked parts make, and those of the nodes that are awake
are_changes : (g : Over) (c : After-evaluate_awake g) →
    AreChanges c.args.joining c.args.parts.now c.args.agenda.now.marks c.args.wide.now c.args.bad.now
    (c.evaluate_all.new.workspace.changes.items ++ c.evaluate_awake.new.noted.items)
are_changes g c =
    AreChanges-from_Evaluated c.args.joining c.args.parts.now c.args.agenda.now.marks c.args.agenda.now.waiting c.args.bad.now c.args.readers.now
    (rooms c.args.workspace.now) c.requires.runnable c.args.wide.now _ c.requires.wide c.evaluate_all.new.agenda.marks
    c.evaluate_all.new.workspace.changes.items c.evaluate_awake.new.noted.items
    c.evaluate_all.new.workspace.done.items c.evaluate_all.ensures.evaluated c.evaluate_all.ensures.rest c.evaluate_awake.ensures.notes

inside_all : (g : Over) (c : After-evaluate_awake g) → (change : Change) →
    Contains (c.evaluate_all.new.workspace.changes.items ++ c.evaluate_awake.new.noted.items) change → change.node < length c.args.bad.now
inside_all g c = changes_inside c.args.joining _ _ _ _ _ _ c.requires.runnable _ _ c.requires.wide _ (are_changes g c)

agreed_all : (g : Over) (c : After-evaluate_awake g) → AreAgreed (c.evaluate_all.new.workspace.changes.items ++ c.evaluate_awake.new.noted.items)
agreed_all g c = changes_agree c.args.joining _ _ _ _ _ _ c.requires.runnable _ _ c.requires.wide _ (are_changes g c)

-- before the changes are taken over the lists are those of the states
calm_listed : (g : Over) (c : After-calm g) → IsListedIn c.args.bad.now c.calm.new.wide
calm_listed g c =
    listed_calm c.args.bad.now c.args.joining c.evaluate_awake.new.wide c.calm.new.wide c.calm.ensures
    (subst (IsListedIn c.args.bad.now) (sym c.evaluate_awake.ensures.same) (listed_in c.args.parts.now c.args.bad.now _ c.args.wide.now c.requires.wide))

pub look_near-requires : goal.look_near-requires
look_near-requires g c =
    fits_parts c.args.parts.now c.args.agenda.now.marks c.args.agenda.now.waiting (length c.args.bad.now) c.args.readers.now (rooms c.args.workspace.now)
    c.requires.runnable c.args.owners.now c.requires.owners.counted c.args.apart.now.inside c.requires.apart c.args.near.now c.requires.near

-- what is near is known still
are_near : (g : Over) (c : After-look_near g) → AreNearIn c.args.parts.now c.args.owners.now c.look_near.new.near
are_near g c = c.look_near.ensures.near c.args.owners.now c.requires.near

-- and a node that is far follows
follows_far : (g : Over) (c : After-look_near g) (node : ℕ) → IsFar c.look_near.new.near node → node < length c.args.bad.now →
    FollowsAt c.args.owners.now c.args.apart.now.inside node
follows_far g c node far inside =
    far_follows c.args.parts.now (length c.args.bad.now) c.args.owners.now c.requires.owners c.args.changes.now c.args.apart.now c.look_near.new.near
    (are_near g c) c.look_near.ensures.tells node (omega (arith, inside, c.requires.owners.counted)) far

pub follow-span-requires : goal.follow-span-requires
follow-span-requires g c =
    let at_end = goal.at.follow-span-requires g c in
    record {
      inside = c.requires.inside;
      agreed = c.requires.agreed;
      counted = sym c.requires.counted;
      owned = c.requires.owners.counted ∙ sym c.requires.counted;
      owners = λ n k is. omega (arith, (c.requires.owners.member n k is).stands.inside, c.requires.apart);
      far = λ node out inside.
          follows_far g at_end.After-look_near node (c.near_flags-flags.ensures node out) (omega (arith, inside, c.requires.counted));
      wide = calm_listed g at_end.After-calm;
    }

-- and so they are after the good run's
follow_listed : (g : Over) (c : After-follow-span g) → IsListedIn c.args.bad.now c.calm.new.wide → IsListedIn c.follow-span.new.bad c.follow-span.new.wide
follow_listed g c listed =
    listed_turned c.calm.new.wide c.follow-span.new.wide c.args.bad.now c.follow-span.new.bad c.follow-span.ensures.turned c.follow-span.ensures.bad.count listed

pub write_all-requires : goal.write_all-requires
write_all-requires g c =
    let at_end = goal.at.write_all-requires g c in
    let xs = c.evaluate_all.new.workspace.changes.items in
    let ys = c.evaluate_awake.new.noted.items in
    record {
      inside = λ change there.
          let inside = inside_all g at_end.After-evaluate_awake change
          (Contains-append_left xs ys change (subst (λ list. Contains list change) c.deref-2.ensures.value there)) in
          omega (arith, inside, c.follow-span.ensures.bad.count);
      agreed = subst AreAgreed (sym c.deref-2.ensures.value) (agreed_left xs ys (agreed_all g at_end.After-evaluate_awake));
      wide = follow_listed g at_end.After-follow-span (calm_listed g at_end.After-calm);
    }

-- the first changes are written, and the others after them
first_taken : (g : Over) (c : After-write_all g) → IsTaken c.evaluate_all.new.workspace.changes.items c.follow-span.new.bad c.write_all.new.state
first_taken g c = subst (λ xs. IsTaken xs c.follow-span.new.bad c.write_all.new.state) c.deref-2.ensures.value c.write_all.ensures.taken

pub write_all-requires-2 : goal.write_all-requires-2
write_all-requires-2 g c =
    let at_end = goal.at.write_all-requires-2 g c in
    let xs = c.evaluate_all.new.workspace.changes.items in
    let ys = c.evaluate_awake.new.noted.items in
    let count = (first_taken g at_end.After-write_all).count in
    record {
      inside = λ change there.
          let inside = inside_all g at_end.After-evaluate_awake change
          (Contains-append_right xs ys change (subst (λ list. Contains list change) c.deref-3.ensures.value there)) in
          omega (arith, inside, count, c.follow-span.ensures.bad.count);
      agreed = subst AreAgreed (sym c.deref-3.ensures.value) (agreed_right xs ys (agreed_all g at_end.After-evaluate_awake));
      wide = listed_turned c.follow-span.new.wide c.write_all.new.wide c.follow-span.new.bad c.write_all.new.state c.write_all.ensures.turned count
          (follow_listed g at_end.After-follow-span (calm_listed g at_end.After-calm));
    }

-- all of them are written
own_taken : (g : Over) (c : After-write_all-2 g) → AreAgreed (c.evaluate_all.new.workspace.changes.items ++ c.evaluate_awake.new.noted.items) →
    IsTaken c.evaluate_all.new.workspace.changes.items c.follow-span.new.bad c.write_all.new.state →
    IsTaken (c.evaluate_all.new.workspace.changes.items ++ c.evaluate_awake.new.noted.items) c.follow-span.new.bad c.write_all-2.new.state
own_taken g c agreed first =
    IsTaken-then c.evaluate_all.new.workspace.changes.items c.evaluate_awake.new.noted.items c.follow-span.new.bad c.write_all.new.state
    c.write_all-2.new.state
    agreed first (subst (λ ys. IsTaken ys c.write_all.new.state c.write_all-2.new.state) c.deref-3.ensures.value c.write_all-2.ensures.taken)

-- the parts that a node concerns are there
parts_there : (g : Over) (c : After-write_all-2 g) (node k : ℕ) → IsConcerned c.args.owners.now c.args.readers.now node k → k < length c.args.apart.now.inside
parts_there g c node k concerns =
    elim concerns [
      | inl owner ↦ omega (arith, (c.requires.owners.member node k owner).stands.inside, c.requires.apart)
      | inr reads ↦ omega (arith, (c.requires.runnable.reads node k reads).stands.inside, c.requires.apart)
    ]

-- as many marks as parts, and as many states as nodes
marks_there : (g : Over) (c : After-write_all-2 g) → length c.mark_again.new.agenda.marks ≡ length c.args.apart.now.inside
marks_there g c =
    omega (arith, c.mark_again.ensures.marks.count, c.evaluate_all.ensures.count, c.requires.runnable.counted, c.requires.apart)

pub notice_near-requires : goal.notice_near-requires
notice_near-requires g c =
    let at_end = goal.at.notice_near-requires g c in
    let own = own_taken g at_end.After-write_all-2 (agreed_all g at_end.After-evaluate_awake) (first_taken g at_end.After-write_all) in
    let moves = moves_beside c.args.joining c.args.parts.now c.args.agenda.now.marks c.args.agenda.now.waiting c.args.bad.now c.args.readers.now
    (rooms c.args.workspace.now) c.requires.runnable c.args.wide.now _ c.requires.wide c.waiting_parts_are_marked.ensures c.args.owners.now c.requires.owners
    c.args.apart.now.inside c.requires.marked _ (are_changes g at_end.After-evaluate_awake) c.args.changes.now c.follow-span.new.bad c.write_all-2.new.state
    c.follow-span.ensures.bad own in
    record {
      span = c.follow-span.ensures.span;
      inside = λ change there. omega (arith, c.requires.inside change there, c.follow-span.ensures.good.count);
      counted = omega (arith, own.count, c.follow-span.ensures.bad.count, c.follow-span.ensures.good.count, c.requires.counted);
      owned = omega (arith, c.requires.owners.counted, c.follow-span.ensures.good.count, c.requires.counted);
      read = omega (arith, c.requires.runnable.readers_counted, c.follow-span.ensures.good.count, c.requires.counted);
      parts = parts_there g at_end.After-write_all-2;
      marks = marks_there g at_end.After-write_all-2;
      agrees = λ change there out.
          let far = c.near_flags-flags.ensures change.node out in
          let inside : change.node < length c.args.bad.now = omega (arith, c.requires.inside change there, c.requires.counted) in
          moves.follows change there (follows_far g at_end.After-look_near change.node far inside)
          ∙ sym (c.follow-span.ensures.good.taken change there);
      unread = λ change there out.
          let far = c.near_flags-flags.ensures change.node out in
          far_unread c.args.parts.now c.args.agenda.now.marks c.args.agenda.now.waiting (length c.args.bad.now) c.args.readers.now (rooms c.args.workspace.now)
          c.requires.runnable c.args.owners.now c.args.changes.now c.args.apart.now c.look_near.new.near (are_near g at_end.After-look_near)
          c.look_near.ensures.tells change.node (omega (arith, c.requires.inside change there, c.requires.counted, c.requires.owners.counted)) far;
    }

pub notice-requires : goal.notice-requires
notice-requires g c =
    let at_end = goal.at.notice-requires g c in
    let own = own_taken g at_end.After-write_all-2 (agreed_all g at_end.After-evaluate_awake) (first_taken g at_end.After-write_all) in
    let xs = c.evaluate_all.new.workspace.changes.items in
    let ys = c.evaluate_awake.new.noted.items in
    let before = c.notice_near.ensures.notices in
    record {
      inside = λ change there.
          let inside = inside_all g at_end.After-evaluate_awake change
          (Contains-append_left xs ys change (subst (λ list. Contains list change) c.deref-4.ensures.value there)) in
          omega (arith, inside, c.follow-span.ensures.good.count, c.requires.counted);
      counted = omega (arith, own.count, c.follow-span.ensures.bad.count, c.follow-span.ensures.good.count, c.requires.counted);
      owned = omega (arith, c.requires.owners.counted, c.follow-span.ensures.good.count, c.requires.counted);
      read = omega (arith, c.requires.runnable.readers_counted, c.follow-span.ensures.good.count, c.requires.counted);
      parts = λ node k concerns. omega (arith, parts_there g at_end.After-write_all-2 node k concerns, before.apart.count);
      marks = omega (arith, marks_there g at_end.After-write_all-2, before.apart.count, before.count);
    }

pub notice-requires-2 : goal.notice-requires-2
notice-requires-2 g c =
    let at_end = goal.at.notice-requires-2 g c in
    let own = own_taken g at_end.After-write_all-2 (agreed_all g at_end.After-evaluate_awake) (first_taken g at_end.After-write_all) in
    let xs = c.evaluate_all.new.workspace.changes.items in
    let ys = c.evaluate_awake.new.noted.items in
    let before = c.notice_near.ensures.notices in
    let then = c.notice.ensures.notices in
    record {
      inside = λ change there.
          let inside = inside_all g at_end.After-evaluate_awake change
          (Contains-append_right xs ys change (subst (λ list. Contains list change) c.deref-5.ensures.value there)) in
          omega (arith, inside, c.follow-span.ensures.good.count, c.requires.counted);
      counted = omega (arith, own.count, c.follow-span.ensures.bad.count, c.follow-span.ensures.good.count, c.requires.counted);
      owned = omega (arith, c.requires.owners.counted, c.follow-span.ensures.good.count, c.requires.counted);
      read = omega (arith, c.requires.runnable.readers_counted, c.follow-span.ensures.good.count, c.requires.counted);
      parts = λ node k concerns. omega (arith, parts_there g at_end.After-write_all-2 node k concerns, before.apart.count, then.apart.count);
      marks = omega (arith, marks_there g at_end.After-write_all-2, before.apart.count, before.count, then.apart.count, then.count);
    }

-- what is noticed of all changes
all_noticed : (g : Over) (c : After-notice-2 g) →
    NoticesBoth c.args.changes.now (c.evaluate_all.new.workspace.changes.items ++ c.evaluate_awake.new.noted.items) c.args.owners.now c.args.readers.now
    c.follow-span.new.good c.write_all-2.new.state c.args.apart.now.inside c.notice-2.new.apart.inside c.mark_again.new.agenda.marks c.notice-2.new.agenda.marks
all_noticed g c =
    let owners = c.args.owners.now in
    let readers = c.args.readers.now in
    let good = c.follow-span.new.good in
    let bad = c.write_all-2.new.state in
    let xs = c.evaluate_all.new.workspace.changes.items in
    let ys = c.evaluate_awake.new.noted.items in
    let two = rw c.deref-4.ensures.value at c.notice.ensures.notices in
    let three = rw c.deref-5.ensures.value at c.notice-2.ensures.notices in
    NoticesBoth-from c.args.changes.now (xs ++ ys) owners readers good bad c.args.apart.now.inside c.notice_near.new.apart.inside c.notice-2.new.apart.inside
    c.mark_again.new.agenda.marks c.notice_near.new.agenda.marks c.notice-2.new.agenda.marks c.notice_near.ensures.notices
    (NoticesChanges-then xs ys owners readers good bad c.notice_near.new.apart.inside c.notice.new.apart.inside c.notice-2.new.apart.inside
    c.notice_near.new.agenda.marks c.notice.new.agenda.marks c.notice-2.new.agenda.marks two three)

pub returns-clause-good : goal.returns-clause-good
returns-clause-good g c = c.follow-span.ensures.good

pub returns-clause-moves : goal.returns-clause-moves
returns-clause-moves g c =
    let at_end = goal.at.returns-clause-moves g c in
    moves_beside c.args.joining c.args.parts.now c.args.agenda.now.marks c.args.agenda.now.waiting c.args.bad.now c.args.readers.now (rooms c.args.workspace.now)
    c.requires.runnable c.args.wide.now _ c.requires.wide c.waiting_parts_are_marked.ensures c.args.owners.now c.requires.owners c.args.apart.now.inside
    c.requires.marked _ (are_changes g at_end.After-evaluate_awake) c.args.changes.now c.follow-span.new.bad c.write_all-2.new.state c.follow-span.ensures.bad
    (own_taken g at_end.After-write_all-2 (agreed_all g at_end.After-evaluate_awake) (first_taken g at_end.After-write_all))

-- all changes together turn the lists
all_turned : (g : Over) (c : After-write_all-2 g) → After-evaluate_awake g → AreAgreed (c.evaluate_all.new.workspace.changes.items ++ c.evaluate_awake.new.noted.items) →
    IsTaken c.evaluate_all.new.workspace.changes.items c.follow-span.new.bad c.write_all.new.state → NoneTwice c.args.bad.now c.follow-span.new.bad c.write_all-2.new.state →
    TurnedIn c.calm.new.wide c.write_all-2.new.wide c.args.bad.now c.write_all-2.new.state
all_turned g c noted agreed first once_all =
    let xs = c.evaluate_all.new.workspace.changes.items in
    let ys = c.evaluate_awake.new.noted.items in
    let next = subst (λ ys. IsTaken ys c.write_all.new.state c.write_all-2.new.state) c.deref-3.ensures.value c.write_all-2.ensures.taken in
    TurnedIn-then c.calm.new.wide c.follow-span.new.wide c.write_all-2.new.wide c.args.bad.now c.follow-span.new.bad c.write_all-2.new.state once_all
    c.follow-span.ensures.turned
    (TurnedIn-then c.follow-span.new.wide c.write_all.new.wide c.write_all-2.new.wide c.follow-span.new.bad c.write_all.new.state c.write_all-2.new.state
    (none_twice xs ys c.follow-span.new.bad c.write_all.new.state c.write_all-2.new.state
    (λ one two here there. agreed one two (Contains-append_left xs ys one here) (Contains-append_right xs ys two there)) first next)
    c.write_all.ensures.turned c.write_all-2.ensures.turned)

pub returns-clause-retouches : goal.returns-clause-retouches
returns-clause-retouches g c =
    let at_end = goal.at.returns-clause-retouches g c in
    let agreed = agreed_all g at_end.After-evaluate_awake in
    let first = first_taken g at_end.After-write_all in
    let once_all = once c.args.joining c.args.parts.now c.args.agenda.now.marks c.args.agenda.now.waiting c.args.bad.now c.args.readers.now
    (rooms c.args.workspace.now) c.requires.runnable c.args.wide.now _ c.requires.wide c.waiting_parts_are_marked.ensures c.args.owners.now c.requires.owners
    c.args.apart.now.inside c.requires.marked _ (are_changes g at_end.After-evaluate_awake) c.args.changes.now c.follow-span.new.bad c.write_all-2.new.state
    c.follow-span.ensures.bad (own_taken g at_end.After-write_all-2 agreed first) in
    RetouchesIn-from c.args.joining c.args.wide.now c.calm.new.wide c.write_all-2.new.wide c.args.bad.now c.write_all-2.new.state
    (subst ListsIn c.evaluate_awake.ensures.same c.touched_is_listed.ensures)
    (subst (λ (wide : Option WideData). CalmsIn c.args.joining wide c.calm.new.wide) c.evaluate_awake.ensures.same c.calm.ensures)
    (all_turned g at_end.After-write_all-2 at_end.After-evaluate_awake agreed first once_all) c.touched_is_listed-2.ensures

pub returns-clause-holds : goal.returns-clause-holds
returns-clause-holds g c =
    let at_end = goal.at.returns-clause-holds g c in
    let old = c.args.bad.now in
    let new = c.write_all-2.new.state in
    let agreed = agreed_all g at_end.After-evaluate_awake in
    let first = first_taken g at_end.After-write_all in
    let own = own_taken g at_end.After-write_all-2 agreed first in
    let count : length new ≡ length old = own.count ∙ c.follow-span.ensures.bad.count in
    let once_all = once c.args.joining c.args.parts.now c.args.agenda.now.marks c.args.agenda.now.waiting old c.args.readers.now
    (rooms c.args.workspace.now) c.requires.runnable c.args.wide.now _ c.requires.wide c.waiting_parts_are_marked.ensures c.args.owners.now c.requires.owners
    c.args.apart.now.inside c.requires.marked _ (are_changes g at_end.After-evaluate_awake) c.args.changes.now c.follow-span.new.bad new
    c.follow-span.ensures.bad own in
    let turned = all_turned g at_end.After-write_all-2 at_end.After-evaluate_awake agreed first once_all in
    let listed : IsListedIn new c.write_all-2.new.wide =
    listed_turned c.calm.new.wide c.write_all-2.new.wide old new turned count (calm_listed g at_end.After-calm) in
    let retouches : RetouchesIn c.args.joining c.args.wide.now c.write_all-2.new.wide old new =
    RetouchesIn-from c.args.joining c.args.wide.now c.calm.new.wide c.write_all-2.new.wide old new
    (subst ListsIn c.evaluate_awake.ensures.same c.touched_is_listed.ensures)
    (subst (λ (wide : Option WideData). CalmsIn c.args.joining wide c.calm.new.wide) c.evaluate_awake.ensures.same c.calm.ensures)
    turned c.touched_is_listed-2.ensures in
    rw c.evaluate_awake.ensures.capacity
    (holds_turned c.args.parts.now old new _ c.args.wide.now c.write_all-2.new.wide c.args.joining retouches count listed c.requires.wide)

pub returns-clause-kept : goal.returns-clause-kept
returns-clause-kept g c =
    let at_end = goal.at.returns-clause-kept g c in
    steps_keep c.args.owners.now c.args.readers.now c.args.apart.now.inside c.notice-2.new.apart.inside c.args.changes.now
    (c.evaluate_all.new.workspace.changes.items ++ c.evaluate_awake.new.noted.items) c.args.good.now c.follow-span.new.good c.args.bad.now c.follow-span.new.bad
    c.write_all-2.new.state c.requires.kept c.follow-span.ensures.good c.follow-span.ensures.bad
    (own_taken g at_end.After-write_all-2 (agreed_all g at_end.After-evaluate_awake) (first_taken g at_end.After-write_all))
    (all_noticed g at_end.After-notice-2).apart

pub returns-clause-marks : goal.returns-clause-marks
returns-clause-marks g c =
    let at_end = goal.at.returns-clause-marks g c in
    let e = c.evaluate_all.ensures in
    let again = subst (λ xs. MarksAll (λ k. (c.args.joining ≡ true) × Contains xs k) c.evaluate_all.new.agenda.marks c.mark_again.new.agenda.marks)
    c.deref.ensures.value c.mark_again.ensures.marks in
    remarks_beside c.args.joining c.args.parts.now c.args.agenda.now.marks c.args.agenda.now.waiting c.args.bad.now c.args.readers.now (rooms c.args.workspace.now)
    c.requires.runnable c.args.wide.now _ c.requires.wide c.waiting_parts_are_marked.ensures c.args.owners.now c.requires.owners c.args.apart.now.inside
    c.requires.marked _ (are_changes g at_end.After-evaluate_awake) c.args.changes.now c.follow-span.new.bad c.write_all-2.new.state c.follow-span.ensures.bad
    (own_taken g at_end.After-write_all-2 (agreed_all g at_end.After-evaluate_awake) (first_taken g at_end.After-write_all))
    c.evaluate_all.new.agenda.marks c.mark_again.new.agenda.marks c.notice-2.new.agenda.marks c.notice-2.new.apart.inside
    c.evaluate_all.new.workspace.changes.items c.evaluate_all.new.workspace.done.items c.args.good.now c.follow-span.new.good e.evaluated e.count again
    c.follow-span.ensures.good (all_noticed g at_end.After-notice-2)

pub returns-clause-near : goal.returns-clause-near
returns-clause-near g c = c.look_near.ensures.near c.args.owners.now c.requires.near

pub returns-clause-rooms : goal.returns-clause-rooms
returns-clause-rooms g c =
    c.evaluate_all.ensures.rooms
    ∙ cleared_rooms c.args.workspace.now c.clear.new.self c.clear-2.new.self c.clear.ensures.capacity c.clear-2.ensures.capacity

pub returns-clause-steps : goal.returns-clause-steps
returns-clause-steps g c = record {
  between = c.evaluate_all.new.steps;
  coded = c.evaluate_all.ensures.steps;
  awake = c.evaluate_awake.ensures.looks;
}

-- some change was noted
first_of : (changes : List Change) → 0 < length changes → (change : Change) × Contains changes change
first_of changes some = let none : Change = record { node = 0; value = Zero } in (slice_index_or changes 0 none, Contains-get_or changes 0 none some)

pub returns-clause-changed : goal.returns-clause-changed
returns-clause-changed g c =
    let at_end = goal.at.returns-clause-changed g c in
    let xs = c.evaluate_all.new.workspace.changes.items in
    let ys = c.evaluate_awake.new.noted.items in
    let changes_it = own_moves c.args.joining c.args.parts.now c.args.agenda.now.marks c.args.agenda.now.waiting c.args.bad.now c.args.readers.now
    (rooms c.args.workspace.now) c.requires.runnable c.args.wide.now _ c.requires.wide c.waiting_parts_are_marked.ensures c.args.owners.now c.requires.owners
    c.args.apart.now.inside c.requires.marked _ (are_changes g at_end.After-evaluate_awake) c.args.changes.now c.follow-span.new.bad c.write_all-2.new.state
    c.follow-span.ensures.bad (own_taken g at_end.After-write_all-2 (agreed_all g at_end.After-evaluate_awake) (first_taken g at_end.After-write_all)) in
    let some : OnTrue c.is_any.result ((0 < length xs) ⊎ (0 < length ys)) = rw (c.deref-6.ensures.value, c.deref-7.ensures.value) at c.is_any.ensures.some in
    OnTrue_from _ _ (λ set.
    elim (OnTrue_at {P = (0 < length xs) ⊎ (0 < length ys)} set some) [
      | inl in_first ↦ let (change, there) = first_of xs in_first in changes_it change (Contains-append_left xs ys change there)
      | inr in_second ↦ let (change, there) = first_of ys in_second in changes_it change (Contains-append_right xs ys change there)
    ])

pub returns-clause-same : goal.returns-clause-same
returns-clause-same g c =
    let at_end = goal.at.returns-clause-same g c in
    let xs = c.evaluate_all.new.workspace.changes.items in
    let ys = c.evaluate_awake.new.noted.items in
    let none : OnFalse c.is_any.result ((length xs ≡ 0) × (length ys ≡ 0)) = rw (c.deref-6.ensures.value, c.deref-7.ensures.value) at c.is_any.ensures.none in
    OnFalse_from c.is_any.result (IsWritten (FollowsAt c.args.owners.now c.args.apart.now.inside) c.args.changes.now c.args.bad.now c.write_all-2.new.state)
    (λ unset.
    let (no_first, no_second) = OnFalse_at {P = (length xs ≡ 0) × (length ys ≡ 0)} unset none in
    still_beside c.args.joining c.args.parts.now c.args.agenda.now.marks c.args.agenda.now.waiting c.args.bad.now c.args.readers.now
    (rooms c.args.workspace.now) c.requires.runnable c.args.wide.now _ c.requires.wide c.waiting_parts_are_marked.ensures c.args.owners.now c.requires.owners
    c.args.apart.now.inside c.requires.marked _ (are_changes g at_end.After-evaluate_awake) c.args.changes.now c.follow-span.new.bad c.write_all-2.new.state
    c.follow-span.ensures.bad (own_taken g at_end.After-write_all-2 (agreed_all g at_end.After-evaluate_awake) (first_taken g at_end.After-write_all))
    (length-append xs ys ∙ omega (arith, no_first, no_second)))
