-- The table spread from the roots over switches that aren't open.
use Rattle.switch_paths.specs.Graphs.{GraphData}
use Rattle.switch_paths.specs.Spread.{AllCome, IsSpread}
use Rattle.switch_paths.specs.Plain.{AreRoots}
use Rattle.switch_paths.proofs.TableMeaning.{are_reached}
use Rattle.switch_paths.proofs.plain.put_reached.Goals as goal

pub returns : goal.returns
returns c =
    let g : GraphData = c.args.graph.now in
    let best = c.args.best.now in
    let start = c.put_roots.new.table in
    let roots : AreRoots c.args.one c.args.state.now g.levels best start = rw c.levels.ensures at c.put_roots.ensures in
    let come : AllCome g.places c.args.widths.now best start c.spread.new.table = rw c.switches.ensures.value at c.spread.ensures.come in
    let spread : IsSpread g.places c.args.widths.now best c.spread.new.table = rw c.switches.ensures.value at c.spread.ensures.spread in
    are_reached g c.switches.ensures.wired c.args.state.now c.args.widths.now best c.args.one c.requires.widths c.requires.strongest start
    c.spread.new.table roots come c.spread.ensures.grows spread
