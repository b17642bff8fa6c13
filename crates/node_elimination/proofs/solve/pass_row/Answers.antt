-- The edges of the row, and then its right side.
use Rattle.std.proofs.Common.{[], ◌∙◌, sym, arith}
use Rattle.std.proofs.lemmas.Result.{on_ok_weaker}
use Rattle.node_elimination.proofs.EquationsLemmas.{Moves-trans}
use Rattle.node_elimination.proofs.PassingLemmas.{PassesRow-passed}
use Rattle.node_elimination.proofs.solve.pass_row.Goals as goal

pub returns-clause-moves : goal.returns-clause-moves
returns-clause-moves g c =
    let first = c.in_ok-pass_edges.ensures in
    on_ok_weaker c.pass_right.result
    (λ moves. Moves-trans [] _ _ _ _ _ _ _ _ _ first.moves moves (omega (arith, first.rises, c.pass_right.ensures.rises)))
    c.pass_right.ensures.moves

pub returns-clause-passes : goal.returns-clause-passes
returns-clause-passes g c =
    let first = c.in_ok-pass_edges.ensures in
    let r = c.requires in
    on_ok_weaker c.pass_right.result
    (λ passes. PassesRow-passed c.args.k c.args.i _ _ _ _ _ _ r.whole.square r.in_range r.row r.gone
    (sym c.is_left.ensures ∙ c.if-not-is_left.false)
    first.moves.size first.passes passes)
    c.pass_right.ensures.passes
