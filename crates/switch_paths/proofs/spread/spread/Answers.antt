-- One round more.
use Rattle.switch_paths.proofs.SpreadLemmas.{AllCome-trans, AllCome-same, Grows-trans, Grows-same}
use Rattle.switch_paths.proofs.spread.spread.Goals as goal

pub loop-init : goal.loop-init
loop-init c = record {
  come = AllCome-same c.args.places.now c.args.widths.now c.args.floor.now c.args.table.now;
  grows = Grows-same c.args.table.now;
}

pub loop-preserved : goal.loop-preserved
loop-preserved c =
    let start = c.args.table.now in
    let old = c.loop.table in
    let new = c.spread_once.new.table in
    record {
      come = AllCome-trans c.args.places.now c.args.widths.now c.args.floor.now start old new c.loop.invariant.come
          c.spread_once.ensures.come;
      grows = Grows-trans start old new c.loop.invariant.grows c.spread_once.ensures.grows;
    }
