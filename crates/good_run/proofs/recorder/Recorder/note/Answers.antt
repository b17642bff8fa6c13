-- The state that is known is the one that was shown, and it is noted if there is room.
use Rattle.std.proofs.Common.{◌≡◌, inl, inr, sym, subst, ◌∙◌, arith}
use Rattle.std.specs.Prelude.{vec_capacity}
use Rattle.std.specs.Vec.{with_items}
use Rattle.std.proofs.lemmas.Bool.{OnTrue_at, OnFalse_at, and_parts}
use Rattle.std.proofs.lemmas.List.{with_items_is}
use Rattle.settling.specs.Moved.{ListsChanges}
use Rattle.good_run.specs.Recording.{RunData, look_at}
use Rattle.good_run.specs.Looks.{IsRecord}
use Rattle.good_run.proofs.RecordLemmas.{IsLookedAt, looks_with, looked_at, run_of}
use Rattle.good_run.proofs.recorder.Recorder.note.Given.{Over}
use Rattle.good_run.proofs.recorder.Recorder.note.Goals.{After-end_look}
use Rattle.good_run.proofs.recorder.Recorder.note.Goals as goal

pub take_over-enough-requires : goal.take_over-enough-requires
take_over-enough-requires g c =
    subst (λ states. ListsChanges (g.M.Moved.changed c.args.moved.now) states (g.M.Moved.state c.args.moved.now)) (sym c.deref_mut.ensures.value)
    (subst (λ (run : RunData). ListsChanges (g.M.Moved.changed c.args.moved.now) run.known (g.M.Moved.state c.args.moved.now)) (sym c.self.view_is) c.requires)

pub end_look-requires : goal.end_look-requires
end_look-requires g c = λ noted.
    let (place, enough) = and_parts c.has_place-place.result c.take_over-enough.result (sym c.is_both-self-inside.ensures ∙ noted) in
    (OnTrue_at place c.has_place-place.ensures.yes).1

-- what is known of the look
looked_here : (g : Over) (c : After-end_look g) →
    IsLookedAt c.self.inside.known.items (g.M.Moved.state c.args.moved.now) c.self.inside.changes.items c.take_over-enough.new.changes.items
    c.self.inside.looks.items (vec_capacity c.self.inside.changes) (vec_capacity c.self.inside.looks) c.self.inside.whole c.has_place-place.result
    c.take_over-enough.result
looked_here g c =
    let i = c.self.inside in
    record {
      some = λ place.
          let (whole, few) = OnTrue_at place c.has_place-place.ensures.yes in
          (whole, omega (arith, few, i.looks.ok.0));
      none = λ place. elim (OnFalse_at place c.has_place-place.ensures.no) [
        | inl lost ↦ inl lost
        | inr full ↦ inr (omega (arith, full, i.looks.ok.0))
      ];
      notes = λ enough. rw c.deref_mut.ensures.value at (OnTrue_at enough c.take_over-enough.ensures.notes);
      few = λ enough. rw c.deref_mut.ensures.value at (OnTrue_at enough c.take_over-enough.ensures.room);
      over = λ none. rw c.deref_mut.ensures.value at (OnFalse_at none c.take_over-enough.ensures.over);
      within = omega (arith, i.changes.ok.0, i.changes.ok.1);
      more = c.take_over-enough.ensures.more;
    }

-- so it becomes what the look makes of it
looked_now : (g : Over) (c : After-end_look g) →
    (run_of c.self.inside.start.items (with_items c.self.inside.known c.take_over-enough.new.known).items c.take_over-enough.new.changes.items
    c.end_look.new.looks.items (vec_capacity c.take_over-enough.new.changes) (vec_capacity c.end_look.new.looks) c.is_both-self-inside.result
    ≡ look_at c.args.begins (run_of c.self.inside.start.items c.self.inside.known.items c.self.inside.changes.items c.self.inside.looks.items
    (vec_capacity c.self.inside.changes) (vec_capacity c.self.inside.looks) c.self.inside.whole) (g.M.Moved.state c.args.moved.now))
    × IsRecord c.self.inside.start.items (with_items c.self.inside.known c.take_over-enough.new.known).items c.take_over-enough.new.changes.items
    c.end_look.new.looks.items c.is_both-self-inside.result
looked_now g c =
    let i = c.self.inside in
    let state = g.M.Moved.state c.args.moved.now in
    let lists = subst (λ (run : RunData). ListsChanges (g.M.Moved.changed c.args.moved.now) run.known state) (sym c.self.view_is) c.requires in
    let known_is = with_items_is i.known c.take_over-enough.new.known
    (omega (arith, c.take_over-enough.auto.known, c.deref_mut.ensures.len)) ∙ c.take_over-enough.ensures.known in
    let looks_are : c.end_look.new.looks.items ≡ looks_with c.is_both-self-inside.result c.args.begins c.take_over-enough.new.changes.items i.looks.items =
    rw (c.len.ensures, c.take_over-enough.new.changes.ok.0) at c.end_look.ensures.items in
    looked_at c.args.begins i.start.items i.known.items state _ i.changes.items c.take_over-enough.new.changes.items i.looks.items c.end_look.new.looks.items
    (vec_capacity i.changes) (vec_capacity c.take_over-enough.new.changes) (vec_capacity i.looks) (vec_capacity c.end_look.new.looks) i.whole
    c.is_both-self-inside.result c.has_place-place.result c.take_over-enough.result lists.count known_is c.take_over-enough.ensures.capacity
    c.end_look.ensures.capacity c.is_both-self-inside.ensures looks_are c.self.invariant (looked_here g c)

pub invariant_of-self : goal.invariant_of-self
invariant_of-self g c = (looked_now g (goal.at.invariant_of-self g c).After-end_look).1

pub returns : goal.returns
returns g c = rw (← c.self.view_is) ((looked_now g (goal.at.returns g c).After-end_look).0)
