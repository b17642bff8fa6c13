-- One place more.
use Rattle.std.proofs.Common.{refl, arith}
use Rattle.switch_paths.proofs.SpreadLemmas.{AllCome-trans, AllCome-same, Grows-trans, Grows-same, room-next, same-next, spread-next}
use Rattle.switch_paths.proofs.spread.spread_once.Goals as goal

pub loop-place-init : goal.loop-place-init
loop-place-init c = record {
  come = AllCome-same c.args.places.now c.args.widths.now c.args.floor.now c.args.table.now;
  grows = Grows-same c.args.table.now;
  room = tt;
  same = refl;
  below = λ place none. absurd (omega arith);
}

pub loop-place-preserved : goal.loop-place-preserved
loop-place-preserved c =
    let places = c.args.places.now in
    let widths = c.args.widths.now in
    let so_far = c.loop-place.invariant in
    let start = c.args.table.now in
    let old = c.loop-place.table in
    let new = c.spread_at-rose.new.table in
    let now = c.spread_at-rose.ensures in
    record {
      come = AllCome-trans places widths c.args.floor.now start old new so_far.come (now.come places widths c.loop-place.place refl refl);
      grows = Grows-trans start old new so_far.grows now.grows;
      room = room-next c.loop-place.rose c.spread_at-rose.result start old new so_far.room so_far.same now.room now.same;
      same = same-next c.loop-place.rose c.spread_at-rose.result start old new so_far.same now.same;
      below = spread-next places widths c.args.floor.now c.loop-place.rose c.spread_at-rose.result old new c.loop-place.place
          so_far.below now.same now.spread;
    }
