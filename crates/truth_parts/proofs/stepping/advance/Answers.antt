-- A step, from what was noted and written; and a fault, after which all is as before.
use Rattle.std.proofs.Common.{◌≡◌, true, not, All, length, vec_len, sym, subst, ◌∙◌, arith}
use Rattle.std.specs.Prelude.{Contains, slice_index_or}
use Rattle.std.proofs.lemmas.List.Sums.{count_by-le-length}
use Rattle.std.proofs.lemmas.List.Elements.{Contains-get_or}
use Rattle.machine_parts.specs.Marking.{members_of, MarksAll}
use Rattle.machine_parts.proofs.MarkLemmas.{marked_sum-within}
use Rattle.machine_parts.proofs.SetMarks.{marked_inside}
use Rattle.truth_columns.proofs.ColumnLemmas.{All-kept}
use Rattle.truth_parts.specs.Evaluating.{AreTaken, IsSeated}
use Rattle.truth_parts.specs.Stepping.{AreWritten, ReadsAny}
use Rattle.truth_parts.proofs.EvaluationLemmas.{cleared_rooms}
use Rattle.truth_parts.proofs.TakingLemmas.{All-written}
use Rattle.truth_parts.proofs.StepLemmas.{StepsInAll-taken, some_noted, none_noted}
use Rattle.truth_parts.proofs.stepping.advance.Given.{Over}
use Rattle.truth_parts.proofs.stepping.advance.Goals.{After-take_over}
use Rattle.truth_parts.proofs.stepping.advance.Goals as goal

pub evaluate_all-requires : goal.evaluate_all-requires
evaluate_all-requires g c =
    let runs = c.requires.runnable in
    let parts = c.args.parts.now in
    let marks = c.args.agenda.now in
    let same = cleared_rooms c.args.workspace.now c.clear.new.self c.clear-2.new.self c.clear.ensures.capacity c.clear-2.ensures.capacity in
    record {
      changes = c.clear.ensures.items;
      done = c.clear-2.ensures.items;
      changes_room = omega (arith, marked_sum-within members_of parts marks, runs.changes_room, c.clear.ensures.capacity);
      done_room = omega (arith, count_by-le-length (λ mark. mark) marks, runs.counted, runs.parts_room, c.clear-2.ensures.capacity);
      counted = runs.counted;
      rails = c.requires.rails;
      highs = c.requires.highs;
      lows = c.requires.lows;
      seated = λ k d inside. subst (λ room. IsSeated (length c.args.hi.now) room (slice_index_or parts k d)) (sym same) (runs.seated k d inside);
      workspace = record {
        even = c.requires.workspace.even;
        values = c.requires.workspace.values;
        highs = c.requires.workspace.highs;
        lows = c.requires.workspace.lows;
      };
    }

pub mark_again-requires : goal.mark_again-requires
mark_again-requires g c = λ k there.
    let done = subst (λ xs. Contains xs k) c.deref.ensures.value there in
    let taken = c.evaluate_all.ensures.taken in
    omega (arith, marked_inside c.args.agenda.now k (taken.marked k done), taken.count)

pub take_over-requires : goal.take_over-requires
take_over-requires g c =
    let runs = c.requires.runnable in
    let evaluated = c.in-Ok.ensures.evaluated in
    record {
      rails = c.requires.rails;
      inside = λ k d within.
          let (part, contained, made) = evaluated.only _ (subst (λ xs. Contains xs (slice_index_or c.deref-in-Ok.result.now k d)) c.deref-in-Ok.ensures.value
          (Contains-get_or c.deref-in-Ok.result.now k d within)) in
          made.inside;
      readers = runs.readers_are.counted;
      parts = λ node k there.
          let among = runs.readers_are.only node k there in
          omega (arith, among.stands.inside, runs.counted, c.evaluate_all.ensures.taken.count, c.mark_again.ensures.count);
    }

pub returns-in-Ok-clause-columns : goal.returns-in-Ok-clause-columns
returns-in-Ok-clause-columns g c =
    let joining = c.args.joining in
    let parts = c.args.parts.now in
    let readers = c.args.readers.now in
    let changes = c.evaluate_all.new.workspace.changes.items in
    let hi = c.args.hi.now in
    let lo = c.args.lo.now in
    let new_hi = c.take_over.new.hi in
    let new_lo = c.take_over.new.lo in
    let written = subst (λ xs. AreWritten xs hi lo new_hi new_lo) c.deref-in-Ok.ensures.value c.take_over.ensures.written in
    let first = c.evaluate_all.new.agenda in
    let second = c.mark_again.new.agenda in
    let again = subst (λ xs. MarksAll (λ k. (joining ≡ true) × Contains xs k) first second) c.deref.ensures.value c.mark_again.ensures in
    let third = c.take_over.new.agenda in
    let read = subst (λ xs. MarksAll (ReadsAny readers xs) second third) c.deref-in-Ok.ensures.value c.take_over.ensures.marks in
    let done = c.evaluate_all.new.workspace.done.items in
    let new = c.evaluate_all.new.truths in
    let empty = c.is_empty.result in
    let count = vec_len c.evaluate_all.new.workspace.changes in
    let counted : count ≡ length changes = omega arith in
    StepsInAll-taken joining (g.T.Truths.columns new) (g.T.Truths.holds new) parts c.args.agenda.now hi lo readers _ c.requires.runnable c.requires.rails first changes
    done c.evaluate_all.ensures.taken c.in-Ok.ensures.evaluated c.in-Ok.ensures.rest new_hi new_lo written second third again read (not empty)
    (some_noted changes count counted empty c.is_empty.ensures) (none_noted changes count counted empty c.is_empty.ensures)

-- the rails that are taken over are of the maker
taken_over : (g : Over) (c : After-take_over g) →
    All (g.T.Truths.has c.evaluate_all.new.truths) c.take_over.new.hi × All (g.T.Truths.has c.evaluate_all.new.truths) c.take_over.new.lo
taken_over g c =
    let kept = c.evaluate_all.ensures.kept in
    let written = subst (λ xs. AreWritten xs c.args.hi.now c.args.lo.now c.take_over.new.hi c.take_over.new.lo) c.deref-in-Ok.ensures.value c.take_over.ensures.written in
    All-written (g.T.Truths.has c.evaluate_all.new.truths) c.evaluate_all.new.workspace.changes.items c.args.hi.now c.args.lo.now c.take_over.new.hi c.take_over.new.lo
    c.evaluate_all.ensures.own (All-kept _ _ _ _ _ _ c.args.hi.now kept c.requires.highs) (All-kept _ _ _ _ _ _ c.args.lo.now kept c.requires.lows) written

pub returns-in-Ok-clause-highs : goal.returns-in-Ok-clause-highs
returns-in-Ok-clause-highs g c = (taken_over g (goal.at.returns-in-Ok-clause-highs g c).After-take_over).0

pub returns-in-Ok-clause-lows : goal.returns-in-Ok-clause-lows
returns-in-Ok-clause-lows g c = (taken_over g (goal.at.returns-in-Ok-clause-lows g c).After-take_over).1

pub put_back-requires : goal.put_back-requires
put_back-requires g c = λ k there.
    let done = subst (λ xs. Contains xs k) c.deref-in-Err.ensures.value there in
    let taken = c.evaluate_all.ensures.taken in
    omega (arith, marked_inside c.args.agenda.now k (taken.marked k done), taken.count)

pub returns-in-Err-clause-err_marks : goal.returns-in-Err-clause-err_marks
returns-in-Err-clause-err_marks g c =
    c.put_back.ensures c.args.agenda.now
    (subst (AreTaken c.args.agenda.now c.evaluate_all.new.agenda) (sym c.deref-in-Err.ensures.value) c.evaluate_all.ensures.taken)

pub returns-in-Err-clause-highs : goal.returns-in-Err-clause-highs
returns-in-Err-clause-highs g c = All-kept _ _ _ _ _ _ c.args.hi.now c.evaluate_all.ensures.kept c.requires.highs

pub returns-in-Err-clause-lows : goal.returns-in-Err-clause-lows
returns-in-Err-clause-lows g c = All-kept _ _ _ _ _ _ c.args.lo.now c.evaluate_all.ensures.kept c.requires.lows

pub returns-in-Ok-clause-rooms : goal.returns-in-Ok-clause-rooms
returns-in-Ok-clause-rooms g c =
    c.evaluate_all.ensures.rooms
    ∙ cleared_rooms c.args.workspace.now c.clear.new.self c.clear-2.new.self c.clear.ensures.capacity c.clear-2.ensures.capacity

pub returns-in-Err-clause-rooms : goal.returns-in-Err-clause-rooms
returns-in-Err-clause-rooms g c =
    c.evaluate_all.ensures.rooms
    ∙ cleared_rooms c.args.workspace.now c.clear.new.self c.clear-2.new.self c.clear.ensures.capacity c.clear-2.ensures.capacity
