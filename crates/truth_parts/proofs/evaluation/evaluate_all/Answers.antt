-- One part more is evaluated.
use Rattle.std.proofs.Common.{◌≡◌, ◌<◌, ℕ, [], ◌∷◌, ◌++◌, Vec, Global, length, refl, sym, ap, subst, ◌∙◌, arith}
use Rattle.std.proofs.lemmas.Result.{err_from_is_err_and}
use Rattle.std.specs.Prelude.{slice_index_or}
use Rattle.std.proofs.lemmas.List.Elements.{All-nil}
use Rattle.machine_parts.specs.Marking.{members_of}
use Rattle.machine_parts.proofs.MarkLemmas.{marked_sum-cleared}
use Rattle.machine_parts.proofs.SetMarks.{marked_inside}
use Rattle.truth_columns.proofs.ColumnLemmas.{All-kept, AreKept-same, AreKept-trans}
use Rattle.truth_parts.specs.Noting.{IsOf}
use Rattle.truth_parts.specs.Evaluating.{rooms, Rooms, IsSeated}
use Rattle.truth_parts.proofs.KeptLemmas.{Evaluated-kept}
use Rattle.truth_parts.proofs.EvaluationLemmas.{AreTaken-more, AreTaken-none, Evaluated-more, Evaluated-none, done_room-more}
use Rattle.truth_parts.proofs.evaluation.evaluate_all.Goals as goal

pub loop-k-init : goal.loop-k-init
loop-k-init g c = record {
  kept = AreKept-same _ _ _;
  bound = refl;
  taken = rw c.requires.done (AreTaken-none c.args.agenda.now);
  evaluated = rw (c.requires.changes, c.requires.done)
      (Evaluated-none c.args.joining c.args.parts.now (g.T.Truths.columns c.args.truths.now) (g.T.Truths.holds c.args.truths.now) c.args.hi.now c.args.lo.now);
  own = rw c.requires.changes (All-nil (IsOf (g.T.Truths.has c.args.truths.now)));
  rooms = refl;
  workspace = c.requires.workspace;
  changes_room = omega (arith, c.requires.changes_room, ap length c.requires.changes);
  done_room = omega (arith, c.requires.done_room, ap length c.requires.done);
}

pub evaluate-requires-clause-highs : goal.evaluate-requires-clause-highs
evaluate-requires-clause-highs g c = All-kept _ _ _ _ _ _ c.args.hi.now c.loop-k.invariant.kept c.requires.highs

pub evaluate-requires-clause-lows : goal.evaluate-requires-clause-lows
evaluate-requires-clause-lows g c = All-kept _ _ _ _ _ _ c.args.lo.now c.loop-k.invariant.kept c.requires.lows

pub evaluate-requires-clause-seated : goal.evaluate-requires-clause-seated
evaluate-requires-clause-seated g c =
    let k = c.in-Some.k in
    let so_far = c.loop-k.invariant in
    let inside : k < length c.args.parts.now = omega (arith, marked_inside c.loop-k.agenda k c.in-Some.ensures.marked, so_far.taken.count, c.requires.counted) in
    let same : rooms c.loop-k.workspace ≡ rooms c.args.workspace.now = so_far.rooms in
    let seated = subst (IsSeated (length c.args.hi.now) (rooms c.args.workspace.now)) (sym c.index-parts-k.is) (c.requires.seated k c.index-parts-k.result inside) in
    record {
      other = seated.other;
      seated = seated.seated;
      value_room = rw (ap (λ (room : Rooms). room.values) same) seated.value_room;
      out_room = rw (ap (λ (room : Rooms). room.outs) same) seated.out_room;
    }

pub evaluate-requires-clause-room : goal.evaluate-requires-clause-room
evaluate-requires-clause-room g c =
    let k = c.in-Some.k in
    let so_far = c.loop-k.invariant in
    let inside : k < length c.args.parts.now = omega (arith, marked_inside c.loop-k.agenda k c.in-Some.ensures.marked, so_far.taken.count, c.requires.counted) in
    let less = marked_sum-cleared members_of c.args.parts.now c.loop-k.agenda k c.index-parts-k.result inside (sym c.index-parts-k.is) c.in-Some.ensures.marked in
    omega (arith, less, so_far.changes_room)

pub loop-k-preserved : goal.loop-k-preserved
loop-k-preserved g c =
    let k = c.in-Some.k in
    let part = c.index-parts-k.result in
    let parts = c.args.parts.now in
    let marks = c.loop-k.agenda in
    let marked = c.in-Some.ensures.marked in
    let cleared = c.in-Some.ensures.cleared in
    let so_far = c.loop-k.invariant in
    let new = c.evaluate.new.truths in
    let kept = c.evaluate.ensures.kept in
    let hi = c.args.hi.now in
    let lo = c.args.lo.now in
    let inside : k < length parts = omega (arith, marked_inside marks k marked, so_far.taken.count, c.requires.counted) in
    let here : slice_index_or parts k part ≡ part = sym c.index-parts-k.is in
    let reports = c.in_ok-evaluate.ensures.changes parts k (record { inside = inside; here = here }) in
    let before = Evaluated-kept _ _ _ _ _ _ kept hi lo (All-kept _ _ _ _ _ _ hi so_far.kept c.requires.highs) (All-kept _ _ _ _ _ _ lo so_far.kept c.requires.lows)
    c.args.joining parts c.loop-k.workspace.changes.items c.loop-k.workspace.done.items so_far.own so_far.evaluated in
    let more = Evaluated-more c.args.joining parts (g.T.Truths.columns new) (g.T.Truths.holds new) hi lo c.loop-k.workspace.changes.items c.evaluate.new.workspace.changes.items
    c.loop-k.workspace.done.items k reports before in
    let done_are : c.evaluate.new.workspace.done.items ≡ c.loop-k.workspace.done.items ++ k ∷ [] =
    ap (λ (list : Vec ℕ Global). list.items) c.evaluate.ensures.done ∙ c.push_reserved.ensures.items in
    let same = c.evaluate.ensures.rooms in
    record {
      kept = AreKept-trans _ _ _ _ _ _ _ _ _ so_far.kept kept;
      bound = c.evaluate.ensures.bound ∙ so_far.bound;
      taken = rw (cleared, done_are) (AreTaken-more c.args.agenda.now marks c.loop-k.workspace.done.items k marked so_far.taken);
      evaluated = rw done_are more;
      own = c.evaluate.ensures.own;
      rooms = λ i. record {
        values = (ap (λ (room : Rooms). room.values) same ∙ ap (λ (room : Rooms). room.values) so_far.rooms) i;
        outs = (ap (λ (room : Rooms). room.outs) same ∙ ap (λ (room : Rooms). room.outs) so_far.rooms) i;
        changes = (ap (λ (room : Rooms). room.changes) same ∙ ap (λ (room : Rooms). room.changes) so_far.rooms) i;
        parts = (ap (λ (room : Rooms). room.parts) same ∙ c.push_reserved.ensures.capacity ∙ ap (λ (room : Rooms). room.parts) so_far.rooms) i;
      };
      workspace = c.evaluate.ensures.workspace;
      changes_room = rw cleared
          (omega (
            arith,
            marked_sum-cleared members_of parts marks k part inside here marked,
            so_far.changes_room,
            c.evaluate.ensures.few,
            ap (λ (room : Rooms). room.changes) same,
          ));
      done_room = rw (cleared, c.evaluate.ensures.done)
          (done_room-more marks k c.loop-k.workspace.done c.push_reserved.new.self marked so_far.done_room c.push_reserved.ensures.len c.push_reserved.ensures.capacity);
    }

pub evaluate-requires-clause-workspace : goal.evaluate-requires-clause-workspace
evaluate-requires-clause-workspace g c =
    let workspace = c.loop-k.invariant.workspace in
    record { even = workspace.even; values = workspace.values; highs = workspace.highs; lows = workspace.lows }

-- a part that was taken when the maker ran out is among those that are done
pub returns-in_err-evaluate-clause-taken : goal.returns-in_err-evaluate-clause-taken
returns-in_err-evaluate-clause-taken g c =
    let k = c.in-Some.k in
    let done_are : c.evaluate.new.workspace.done.items ≡ c.loop-k.workspace.done.items ++ k ∷ [] =
    ap (λ (list : Vec ℕ Global). list.items) c.evaluate.ensures.done ∙ c.push_reserved.ensures.items in
    rw (c.in-Some.ensures.cleared, done_are) (AreTaken-more c.args.agenda.now c.loop-k.agenda c.loop-k.workspace.done.items k c.in-Some.ensures.marked c.loop-k.invariant.taken)

-- what a fault tells that is passed on is so still
pub returns-in_err-evaluate-clause-spent : goal.returns-in_err-evaluate-clause-spent
returns-in_err-evaluate-clause-spent g c =
    let p = err_from_is_err_and c.from_residual.result c.from_residual.ensures.1 in
    rw (p.1, p.2) c.in_err-evaluate.ensures.spent
