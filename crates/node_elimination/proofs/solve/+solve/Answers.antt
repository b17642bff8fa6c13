-- The unknown is taken out, what is left is solved, and the unknown is read back.
use Rattle.std.proofs.Common.{arith}
use Rattle.node_elimination.proofs.SolvingLemmas.{Solves-step, Moves-step}
use Rattle.node_elimination.proofs.solve.+solve.Goals as goal

pub returns-in_ok-gather-in-Some-clause-moves : goal.returns-in_ok-gather-in-Some-clause-moves
returns-in_ok-gather-in-Some-clause-moves g t c =
    let eliminated = c.in_ok-eliminate-in-Some.ensures in
    let solved = c.in_ok-solve-in-Some.ensures in
    let gathered = c.in_ok-gather-in-Some.ensures in
    let first = rw c.put_left.ensures at eliminated.moves in
    let second = rw c.recount.ensures at solved.moves in
    rw c.put_left-in-Some.ensures
    (Moves-step _ _ _ _ c.args.system.now _ _ _ c.in-Some.k c.requires.square c.in-Some.ensures.found.1 first.size second.size first.left
    second.left (rw c.put_left.ensures at eliminated.passes) (rw c.recount.ensures at solved.solves) gathered.gathers _ _ _ _ first second
    gathered.moves (omega (arith, eliminated.rises, solved.rises, gathered.rises)))

pub returns-in_ok-gather-in-Some-clause-solves : goal.returns-in_ok-gather-in-Some-clause-solves
returns-in_ok-gather-in-Some-clause-solves g t c =
    let first = rw c.put_left.ensures at c.in_ok-eliminate-in-Some.ensures.moves in
    let second = rw c.recount.ensures at c.in_ok-solve-in-Some.ensures.moves in
    rw c.put_left-in-Some.ensures
    (Solves-step _ _ _ _ c.args.system.now _ _ _ c.in-Some.k c.requires.square c.in-Some.ensures.found.1 first.size second.size first.left
    second.left (rw c.put_left.ensures at c.in_ok-eliminate-in-Some.ensures.passes)
    (rw c.recount.ensures at c.in_ok-solve-in-Some.ensures.solves) c.in_ok-gather-in-Some.ensures.gathers)
