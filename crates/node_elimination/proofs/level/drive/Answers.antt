-- The level is solved over the bases that were put.
use Rattle.std.proofs.Common.{◌≡◌, ◌++◌, ap, ◌∙◌, arith}
use Rattle.std.proofs.lemmas.Result.{IfOk-weaker}
use Rattle.node_elimination.specs.LevelSystem.{IsFresh}
use Rattle.node_elimination.proofs.BaseLemmas.{within-reset, IsFresh-reset, IsFresh-puts, SolvesLevel-extends, Grows-drive}
use Rattle.node_elimination.proofs.level.drive.Goals as goal

pub solve_level-requires-clause-fresh : goal.solve_level-requires-clause-fresh
solve_level-requires-clause-fresh g c =
    let reset : IsFresh c.args.pool.now c.reset.new.self =
    rw c.reset.ensures.value
    (IsFresh-reset c.args.pool.now c.args.system.now c.args.falsehood c.reset.ensures.square c.requires.falsehood
    c.requires.left) in
    let put = c.in_ok-put_roots.ensures in
    IsFresh-puts _ _ _ _ _ _ put.moves.size put.moves.left reset put.puts

pub returns-clause-solves : goal.returns-clause-solves
returns-clause-solves g c =
    let put = c.in_ok-put_roots.ensures in
    let links = c.args.links.now in
    let size : c.reset.new.self.size ≡ c.args.system.now.size = ap (λ system. system.size) c.reset.ensures.value in
    IfOk-weaker c.solve_level.result _ _
    (λ answers solves vars.
    SolvesLevel-extends links.graph.now links.level links.gates.now links.passes.now links.sources.now _ _ c.args.system.now
    c.put_roots.new.system vars _ _ c.requires.fit put.extends (put.moves.size ∙ size)
    (λ i inside. put.puts.done vars i (omega arith) (omega arith))
    (solves vars))
    c.solve_level.ensures.solves

pub returns-clause-grows : goal.returns-clause-grows
returns-clause-grows g c =
    let put = c.in_ok-put_roots.ensures in
    let links = c.args.links.now in
    IfOk-weaker c.solve_level.result _ _
    (λ answers grows.
    Grows-drive c.args.above.now (links.gates.now ++ (links.passes.now ++ links.sources.now)) answers.items _ _ _
    c.reset.new.self _ _ _ _
    (λ listed bound.
    rw c.reset.ensures.value
    (within-reset c.args.pool.now c.args.system.now c.args.falsehood listed bound c.reset.ensures.square
    c.requires.falsehood))
    put.moves grows (omega (arith, put.rises, c.solve_level.ensures.rises)))
    c.solve_level.ensures.grows
