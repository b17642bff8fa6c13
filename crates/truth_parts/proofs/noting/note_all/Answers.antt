-- One place more is noted.
use Rattle.std.proofs.Common.{◌≡◌, ◌<◌, length, refl, subst, sym, ◌∙◌, arith}
use Rattle.std.specs.Prelude.{slice_index}
use Rattle.truth_columns.proofs.ColumnLemmas.{All-kept, AreKept-same, AreKept-trans}
use Rattle.truth_parts.proofs.NotingLemmas.{All-found, Notes-none, Notes-found}
use Rattle.truth_parts.proofs.KeptLemmas.{AreOf-kept, Notes-kept, passed_on}
use Rattle.truth_parts.proofs.noting.note_all.Goals as goal

pub loop-place-init : goal.loop-place-init
loop-place-init g c = record {
  kept = AreKept-same _ _ _;
  bound = refl;
  changes = Notes-none c.args.joining (g.T.Truths.columns c.args.truths.now) (g.T.Truths.holds c.args.truths.now) c.args.nodes.now c.args.hi.now c.args.lo.now
      c.args.ones.now c.args.others.now c.args.changes.now.items;
  own = c.requires.own;
  few = omega arith;
  capacity = refl;
}

pub next_of-requires-clause-hi : goal.next_of-requires-clause-hi
next_of-requires-clause-hi g c =
    let has = g.T.Truths.has c.loop-place.truths in
    subst has (sym c.index-hi-node.is) (All-kept _ _ _ _ _ _ c.args.hi.now c.loop-place.invariant.kept c.requires.highs _ c.index-hi-node.result
    (c.requires.below c.loop-place.place 0 (omega (arith, c.requires.front))))

pub next_of-requires-clause-lo : goal.next_of-requires-clause-lo
next_of-requires-clause-lo g c =
    let has = g.T.Truths.has c.loop-place.truths in
    subst has (sym c.index-lo-node.is) (All-kept _ _ _ _ _ _ c.args.lo.now c.loop-place.invariant.kept c.requires.lows _ c.index-lo-node.result
    (omega (arith, c.requires.rails, c.requires.below c.loop-place.place 0 (omega (arith, c.requires.front)))))

pub next_of-requires-clause-one : goal.next_of-requires-clause-one
next_of-requires-clause-one g c =
    let has = g.T.Truths.has c.loop-place.truths in
    subst has (sym c.index-ones-place.is) (All-kept _ _ _ _ _ _ c.args.ones.now c.loop-place.invariant.kept c.requires.ones c.loop-place.place c.index-ones-place.result
    (omega arith))

pub next_of-requires-clause-other : goal.next_of-requires-clause-other
next_of-requires-clause-other g c =
    let has = g.T.Truths.has c.loop-place.truths in
    subst has (sym c.index-others-place.is) (All-kept _ _ _ _ _ _ c.args.others.now c.loop-place.invariant.kept c.requires.others c.loop-place.place
    c.index-others-place.result (omega (arith, c.requires.even)))

pub loop-place-preserved : goal.loop-place-preserved
loop-place-preserved g c =
    let so_far = c.loop-place.invariant in
    let hi = c.args.hi.now in
    let lo = c.args.lo.now in
    let place = c.loop-place.place in
    let nodes = c.args.nodes.now in
    let ones = c.args.ones.now in
    let others = c.args.others.now in
    let mid = c.loop-place.changes.items in
    let old = c.args.changes.now.items in
    let new = c.next_of.new.truths in
    let kept = c.next_of.ensures.kept in
    let inside : place < length ones = omega arith in
    let below : slice_index nodes place < length hi = c.requires.below place 0 (omega (arith, c.requires.front)) in
    let found = c.in_ok-found.found in
    let before = Notes-kept _ _ _ _ _ _ kept hi lo (All-kept _ _ _ _ _ _ hi so_far.kept c.requires.highs) (All-kept _ _ _ _ _ _ lo so_far.kept c.requires.lows)
    c.args.joining nodes ones others (All-kept _ _ _ _ _ _ ones so_far.kept c.requires.ones) (All-kept _ _ _ _ _ _ others so_far.kept c.requires.others) place old mid
    so_far.own so_far.changes in
    record {
      kept = AreKept-trans _ _ _ _ _ _ _ _ _ so_far.kept kept;
      bound = c.next_of.ensures.bound ∙ so_far.bound;
      changes = rw c.note_found.ensures.items
          (Notes-found c.args.joining (g.T.Truths.columns new) (g.T.Truths.holds new) nodes hi lo ones others place inside c.requires.even c.requires.rails below
          c.index-hi-node.result c.index-lo-node.result c.index-ones-place.result c.index-others-place.result c.index-hi-node.is c.index-lo-node.is
          c.index-ones-place.is c.index-others-place.is (g.T.Truths.has new) found old mid c.in_ok-found.ensures.changes c.in_ok-found.ensures.stays before);
      own = rw c.note_found.ensures.items
          (All-found (g.T.Truths.has new) c.args.joining (g.T.Truths.columns new) (g.T.Truths.holds new) _ _ _ _ _ found mid c.in_ok-found.ensures.changes
          (AreOf-kept _ _ _ _ _ _ kept mid so_far.own));
      few = omega (arith, c.note_found.ensures.few, so_far.few);
      capacity = c.note_found.ensures.capacity ∙ so_far.capacity;
    }

pub returns-clause-changes : goal.returns-clause-changes
returns-clause-changes g c =
    let last : c.loop-place.place ≡ length c.args.ones.now = omega arith in
    rw last at c.loop-place.invariant.changes

pub returns-in_err-found-clause-own : goal.returns-in_err-found-clause-own
returns-in_err-found-clause-own g c = AreOf-kept _ _ _ _ _ _ c.next_of.ensures.kept c.loop-place.changes.items c.loop-place.invariant.own

pub returns-in_err-found-clause-spent : goal.returns-in_err-found-clause-spent
returns-in_err-found-clause-spent g c = passed_on _ c.from_residual.result _ c.from_residual.ensures.1 c.in_err-found.ensures.spent
