-- One listed node more is taken over, and at the end all are.
use Rattle.std.proofs.Common.{◌+◌, ◌<◌, length, refl, sym, ap, subst, ◌∙◌, arith}
use Rattle.std.specs.Prelude.{vec_capacity}
use Rattle.std.proofs.lemmas.Bool.{OnTrue_from, OnFalse_from}
use Rattle.std.proofs.lemmas.List.{length-append}
use Rattle.std.proofs.lemmas.List.Elements.{Contains-get_or}
use Rattle.switch_paths.specs.Switching.{state_at}
use Rattle.good_run.specs.Recording.{count_apart}
use Rattle.good_run.specs.Looks.{TakesSoFar}
use Rattle.good_run.proofs.CountLemmas.{count_apart-same}
use Rattle.good_run.proofs.TakingLemmas.{Takes-start, Takes-more, taken_over, NotesChanges-all, HasMore-so_far}
use Rattle.good_run.proofs.recorder.take_over.Goals as goal

pub loop-at-init : goal.loop-at-init
loop-at-init g c = record {
  so_far = Takes-start (g.M.Moved.changed c.args.moved.now) c.args.known.now (g.M.Moved.state c.args.moved.now) c.args.changes.now.items
      (vec_capacity c.args.changes.now);
  capacity = refl;
  end = c.change_count-at-end.ensures;
}

pub take_one-noted-requires-clause-inside : goal.take_one-noted-requires-clause-inside
take_one-noted-requires-clause-inside g c =
    let below = c.requires.inside _ (Contains-get_or (g.M.Moved.changed c.args.moved.now) c.loop-at.at 0 (omega (arith, c.loop-at-test.true, c.loop-at.invariant.end))) in
    omega (arith, below, c.changed_node-node.ensures, c.loop-at.invariant.so_far.count)

pub take_one-noted-requires-clause-there : goal.take_one-noted-requires-clause-there
take_one-noted-requires-clause-there g c =
    let below = c.requires.inside _ (Contains-get_or (g.M.Moved.changed c.args.moved.now) c.loop-at.at 0 (omega (arith, c.loop-at-test.true, c.loop-at.invariant.end))) in
    omega (arith, below, c.changed_node-node.ensures, c.requires.count)

pub loop-at-preserved : goal.loop-at-preserved
loop-at-preserved g c =
    let changed = g.M.Moved.changed c.args.moved.now in
    let state = g.M.Moved.state c.args.moved.now in
    let i = c.loop-at.at in
    let node = c.changed_node-node.result in
    let inside : i < length changed = omega (arith, c.loop-at-test.true, c.loop-at.invariant.end) in
    let below = c.requires.inside _ (Contains-get_or changed i 0 inside) in
    let within : node < length c.args.known.now = omega (arith, below, c.changed_node-node.ensures) in
    record {
      so_far = subst (TakesSoFar changed (i + 1) c.args.known.now c.take_one-noted.new.known state c.args.changes.now.items c.take_one-noted.new.changes.items
          (vec_capacity c.args.changes.now)) (sym c.is_both-enough.ensures)
          (Takes-more changed i node (state_at state node) c.args.known.now c.loop-at.known c.take_one-noted.new.known state c.args.changes.now.items
          c.loop-at.changes.items c.take_one-noted.new.changes.items (vec_capacity c.args.changes.now) inside c.changed_node-node.ensures refl within
          c.requires.count c.loop-at.enough c.take_one-noted.result c.loop-at.invariant.so_far
          (rw (← c.loop-at.invariant.capacity) c.take_one-noted.ensures.takes));
      capacity = c.take_one-noted.ensures.capacity ∙ c.loop-at.invariant.capacity;
      end = c.loop-at.invariant.end;
    }

pub returns-clause-known : goal.returns-clause-known
returns-clause-known g c =
    taken_over (g.M.Moved.changed c.args.moved.now) c.loop-at.at c.args.known.now c.loop-at.known (g.M.Moved.state c.args.moved.now) c.args.changes.now.items
    c.loop-at.changes.items (vec_capacity c.args.changes.now) c.loop-at.enough (omega (arith, c.loop-at-test.false, c.loop-at.invariant.end)) c.requires
    c.loop-at.invariant.so_far

pub returns-clause-notes : goal.returns-clause-notes
returns-clause-notes g c =
    let changed = g.M.Moved.changed c.args.moved.now in
    let state = g.M.Moved.state c.args.moved.now in
    let same = taken_over changed c.loop-at.at c.args.known.now c.loop-at.known state c.args.changes.now.items c.loop-at.changes.items
    (vec_capacity c.args.changes.now) c.loop-at.enough (omega (arith, c.loop-at-test.false, c.loop-at.invariant.end)) c.requires c.loop-at.invariant.so_far in
    OnTrue_from c.loop-at.enough _ (λ all.
    NotesChanges-all changed c.loop-at.at c.args.known.now c.loop-at.known state c.args.changes.now.items c.loop-at.changes.items
    (vec_capacity c.args.changes.now) same
    (subst (TakesSoFar changed c.loop-at.at c.args.known.now c.loop-at.known state c.args.changes.now.items c.loop-at.changes.items
    (vec_capacity c.args.changes.now)) all c.loop-at.invariant.so_far))

pub returns-clause-room : goal.returns-clause-room
returns-clause-room g c =
    let so_far = c.loop-at.invariant.so_far in
    let state = g.M.Moved.state c.args.moved.now in
    let so_many = ap length so_far.behind ∙ length-append c.args.changes.now.items so_far.more in
    let same = taken_over (g.M.Moved.changed c.args.moved.now) c.loop-at.at c.args.known.now c.loop-at.known state c.args.changes.now.items
    c.loop-at.changes.items (vec_capacity c.args.changes.now) c.loop-at.enough (omega (arith, c.loop-at-test.false, c.loop-at.invariant.end)) c.requires so_far in
    let none = ap (λ states. count_apart states state) same ∙ count_apart-same state in
    OnTrue_from c.loop-at.enough _ (λ all.
    omega (arith, so_many, so_far.number all, none, c.loop-at.changes.ok.0, c.loop-at.changes.ok.1, c.loop-at.invariant.capacity))

pub returns-clause-over : goal.returns-clause-over
returns-clause-over g c = OnFalse_from c.loop-at.enough _ (λ none. c.loop-at.invariant.so_far.over none)

pub returns-clause-more : goal.returns-clause-more
returns-clause-more g c =
    HasMore-so_far (g.M.Moved.changed c.args.moved.now) c.loop-at.at c.args.known.now c.loop-at.known (g.M.Moved.state c.args.moved.now)
    c.args.changes.now.items c.loop-at.changes.items (vec_capacity c.args.changes.now) c.loop-at.enough c.loop-at.invariant.so_far

pub returns-clause-capacity : goal.returns-clause-capacity
returns-clause-capacity g c = c.loop-at.invariant.capacity
