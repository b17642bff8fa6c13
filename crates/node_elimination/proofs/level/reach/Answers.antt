-- The level is solved over bases that are constants.
use Rattle.std.proofs.Common.{◌≡◌, length, ◌++◌, ap, ◌∙◌, arith}
use Rattle.std.proofs.lemmas.Result.{IfOk-weaker}
use Rattle.node_elimination.proofs.GrowthLemmas.{Extends-same}
use Rattle.node_elimination.proofs.PassingLemmas.{left-same}
use Rattle.node_elimination.proofs.BaseLemmas.{IsWhole-bases, IsFresh-bases, SolvesLevel-extends, Grows-reach, value-chosen, within-bases}
use Rattle.node_elimination.proofs.level.reach.Goals as goal

pub solve_level-requires-clause-whole : goal.solve_level-requires-clause-whole
solve_level-requires-clause-whole g c =
    let put = c.put_levels.ensures in
    let size : c.put_levels.new.system.size ≡ c.reset.new.self.size = put.size in
    IsWhole-bases c.args.pool.now c.put_levels.new.system c.args.falsehood (length c.args.system.now.edges)
    (put.edges ∙ ap (λ system. system.edges) c.reset.ensures.value) put.square c.requires.falsehood
    (λ i inside. (value-chosen c.args.pool.now c.args.falsehood c.args.truth _ _ c.requires.falsehood c.requires.truth
    (put.rights i (omega arith))).0)

pub solve_level-requires-clause-fresh : goal.solve_level-requires-clause-fresh
solve_level-requires-clause-fresh g c =
    let put = c.put_levels.ensures in
    let size : c.put_levels.new.system.size ≡ c.args.system.now.size =
    put.size ∙ ap (λ system. system.size) c.reset.ensures.value in
    IsFresh-bases c.args.pool.now c.put_levels.new.system c.args.falsehood (length c.args.system.now.edges)
    (put.edges ∙ ap (λ system. system.edges) c.reset.ensures.value) put.square c.requires.falsehood
    (λ i inside. left-same c.put_levels.new.system c.args.system.now i
    (put.left ∙ ap (λ system. system.left) c.reset.ensures.value) ∙ c.requires.left i (omega arith))

pub returns-clause-solves : goal.returns-clause-solves
returns-clause-solves g c =
    let put = c.put_levels.ensures in
    let links = c.args.links.now in
    let size : c.put_levels.new.system.size ≡ c.args.system.now.size =
    put.size ∙ ap (λ system. system.size) c.reset.ensures.value in
    let sized : c.reset.new.self.size ≡ c.args.system.now.size = ap (λ system. system.size) c.reset.ensures.value in
    IfOk-weaker c.solve_level.result _ _
    (λ answers solves vars.
    SolvesLevel-extends links.graph.now links.level links.gates.now links.passes.now links.sources.now _ _ c.args.system.now
    c.put_levels.new.system vars _ _ c.requires.fit (Extends-same c.args.pool.now) size
    (λ i inside.
    (value-chosen c.args.pool.now c.args.falsehood c.args.truth _ _ c.requires.falsehood c.requires.truth
    (put.rights i (omega arith))).1 vars)
    (solves vars))
    c.solve_level.ensures.solves

pub returns-clause-grows : goal.returns-clause-grows
returns-clause-grows g c =
    let put = c.put_levels.ensures in
    let links = c.args.links.now in
    let size : c.put_levels.new.system.size ≡ c.reset.new.self.size = put.size in
    IfOk-weaker c.solve_level.result _ _
    (λ answers grows.
    Grows-reach (links.gates.now ++ (links.passes.now ++ links.sources.now)) answers.items _ _ c.put_levels.new.system _
    (λ listed bound.
    within-bases c.args.pool.now c.put_levels.new.system c.args.falsehood (length c.args.system.now.edges) listed bound
    (put.edges ∙ ap (λ system. system.edges) c.reset.ensures.value) put.square c.requires.falsehood
    (λ i inside.
    (value-chosen c.args.pool.now c.args.falsehood c.args.truth _ _ c.requires.falsehood c.requires.truth
    (put.rights i (omega arith))).2 listed bound))
    grows)
    c.solve_level.ensures.grows
