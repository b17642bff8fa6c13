-- The table spread from the levels over closed switches.
use Rattle.std.proofs.Common.{◌≡◌, ℕ, ◌<◌, ◌++◌, true, length, drop}
use Rattle.std.proofs.Math.ListN.{get_or-append}
use Rattle.std.specs.Prelude.{slice_index}
use Rattle.switch_paths.specs.Graphs.{GraphData, nodes, level_of}
use Rattle.switch_paths.specs.Spread.{AreWidths, AllCome, Grows, IsSpread}
use Rattle.switch_paths.proofs.TableMeaning.{strongest}
use Rattle.switch_paths.proofs.plain.put_strongest.Goals as goal

pub returns : goal.returns
returns c =
    let g : GraphData = c.args.graph.now in
    let state = c.args.state.now in
    let widths = c.put_widths.new.widths in
    let best = c.spread.new.table in
    let rest = drop (length g.levels) c.args.best.now in
    let start = c.copy_from_slice.new.self ++ rest in
    let copied : c.copy_from_slice.new.self ≡ g.levels = cc (c.copy_from_slice.ensures.after, c.levels-levels.ensures) in
    let from_levels : (n : ℕ) → n < nodes g → slice_index start n ≡ level_of g n =
    λ n in_range. rw copied (get_or-append g.levels rest 0 n in_range) in
    let are_widths : AreWidths true state g.places widths = rw c.switches-places.ensures.value at c.put_widths.ensures in
    let come : AllCome g.places widths g.levels start best =
    rw (c.switches-places.ensures.value, c.levels-levels.ensures) at c.spread.ensures.come in
    let spread : IsSpread g.places widths g.levels best =
    rw (c.switches-places.ensures.value, c.levels-levels.ensures) at c.spread.ensures.spread in
    let grows : Grows start best = rw c.levels-levels.ensures at c.spread.ensures.grows in
    strongest g c.switches-places.ensures.wired state widths are_widths start best from_levels come grows spread
