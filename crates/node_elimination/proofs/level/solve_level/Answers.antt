-- The right sides are the solution of the system with the links.
use Rattle.std.proofs.Common.{◌<◌, length, ◌∙◌, arith}
use Rattle.node_elimination.proofs.GrowthLemmas.{All-back}
use Rattle.node_elimination.proofs.LevelSystemLemmas.{SolvesLevel-solved, Grows-level}
use Rattle.node_elimination.proofs.level.solve_level.Goals as goal

pub returns-clause-formulas : goal.returns-clause-formulas
returns-clause-formulas g c =
    rw (c.in_ok-from_slice.ensures.items, c.rights.ensures)
    (All-back (λ id. id.place < length c.solve.new.pool) c.solve.new.system.edges c.solve.new.system.rights
    c.in_ok-solve.ensures.moves.whole.formulas)

pub returns-clause-solves : goal.returns-clause-solves
returns-clause-solves g c = λ vars.
    let linked = c.in_ok-add_links.ensures in
    let solves = rw c.count_all.ensures at c.in_ok-solve.ensures.solves in
    SolvesLevel-solved _ _ _ _ _ _ _ _ _ _ _ _ c.requires.fresh linked.moves.whole.square linked.moves.size linked.moves.left
    linked.adds solves
    (c.in_ok-from_slice.ensures.items ∙ c.rights.ensures) vars

pub returns-clause-grows : goal.returns-clause-grows
returns-clause-grows g c =
    let linked = c.in_ok-add_links.ensures in
    let moves = rw c.count_all.ensures at c.in_ok-solve.ensures.moves in
    rw (c.in_ok-from_slice.ensures.items, c.rights.ensures)
    (Grows-level _ _ _ _ _ _ _ _ _ _ linked.moves moves (omega (arith, linked.rises, c.in_ok-solve.ensures.rises)))
