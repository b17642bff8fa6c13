-- The place and the level are those from before.
use Rattle.std.proofs.Common.{sym, ap, subst, ◌∙◌}
use Rattle.std.specs.Prelude.{All}
use Rattle.strength_order.specs.Levels.{IsLevel}
use Rattle.switch_paths.specs.Graphs.{GraphData, nodes, FitsPlace}
use Rattle.channel_groups.specs.Changes.{with_place, with_level}
use Rattle.edit_undo.proofs.UndoingLemmas.{undo_is, undo_nodes, all_levels, old_place_fits, old_level_is}
use Rattle.edit_undo.proofs.undoing.take_back.Goals as goal

pub put_switch_back-requires-clause-inside : goal.put_switch_back-requires-clause-inside
put_switch_back-requires-clause-inside c = c.requires.place.place

pub put_switch_back-requires-clause-fits : goal.put_switch_back-requires-clause-fits
put_switch_back-requires-clause-fits c =
    let g = c.args.graph.now in
    let change = c.args.change.now in
    let all : All (FitsPlace (nodes g)) (with_place change.place g.places) =
    subst (λ count. All (FitsPlace count) (with_place change.place g.places)) (undo_nodes g change c.requires.place.same_nodes) c.requires.wired.places in
    old_place_fits (nodes g) g.places change.place c.requires.place.place all

pub put_level_back-requires-clause-inside : goal.put_level_back-requires-clause-inside
put_level_back-requires-clause-inside c = rw c.put_switch_back.ensures c.requires.place.level

pub put_level_back-requires-clause-level : goal.put_level_back-requires-clause-level
put_level_back-requires-clause-level c =
    let g = c.args.graph.now in
    let change = c.args.change.now in
    let all : All IsLevel (with_level change.level g.levels) =
    subst (λ levels. All IsLevel (with_level change.level levels)) (all_levels g change c.requires.place.same_nodes) c.requires.wired.levels in
    old_level_is g.levels change.level c.requires.place.level all

pub returns : goal.returns
returns c =
    let g = c.args.graph.now in
    let change = c.args.change.now in
    c.put_level_back.ensures
    ∙ (ap (λ (graph : GraphData). record graph { levels = with_level change.level graph.levels }) c.put_switch_back.ensures
    ∙ sym (undo_is g change c.requires.place.same_nodes))
