-- The level that the node had would be its level again.
use Rattle.std.proofs.Common.{◌<◌, sym, ap, subst, ◌∙◌}
use Rattle.std.specs.Prelude.{slice_set}
use Rattle.std.proofs.lemmas.Bool.{OnFalse_at, OnTrue_at}
use Rattle.std.proofs.lemmas.List.{set-get_or, set-set}
use Rattle.switch_paths.specs.Graphs.{GraphData, level_of}
use Rattle.edits_between.proofs.ReachingLemmas.{level_past}
use Rattle.edits_between.proofs.leading.put_level.Goals as goal

pub returns-then-not-has_node-clause-put : goal.returns-then-not-has_node-clause-put
returns-then-not-has_node-clause-put c =
    level_past c.args.target.now c.args.graph.now c.args.node (OnFalse_at c.if-not-has_node.true c.has_node.ensures.past)

pub level-had-requires : goal.level-had-requires
level-had-requires c = OnTrue_at c.if-not-has_node.false c.has_node.ensures.inside

pub level-has-requires : goal.level-has-requires
level-has-requires c = subst (λ n. c.args.node < n) (sym c.requires.nodes_are) (OnTrue_at c.if-not-has_node.false c.has_node.ensures.inside)

pub set_level-requires-clause-in_range : goal.set_level-requires-clause-in_range
set_level-requires-clause-in_range c = OnTrue_at c.if-not-has_node.false c.has_node.ensures.inside

pub returns-clause-before : goal.returns-clause-before
returns-clause-before c =
    let levels = c.args.graph.now.levels in
    ap (λ (h : GraphData). slice_set h.levels c.args.node c.level-had.result) c.set_level.ensures
    ∙ (ap (λ had. slice_set (slice_set levels c.args.node c.level-has.result) c.args.node had) c.level-had.ensures.value
    ∙ (set-set levels c.args.node c.level-has.result (level_of c.args.graph.now c.args.node) ∙ set-get_or levels c.args.node 0))

pub returns-clause-put : goal.returns-clause-put
returns-clause-put c =
    c.set_level.ensures
    ∙ ap (λ level. record c.args.graph.now { levels = slice_set c.args.graph.now.levels c.args.node level }) c.level-has.ensures.value
