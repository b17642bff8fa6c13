-- The edge past k is formed from the three edges, and put.
use Rattle.std.proofs.Common.{[], ◌∙◌, sym}
use Rattle.node_elimination.proofs.EquationsLemmas.{IsHeld-at_edge, Moves-put_edge}
use Rattle.node_elimination.proofs.PassingLemmas.{PassesEdge-put}
use Rattle.node_elimination.proofs.solve.pass_edge.Goals as goal

pub returns-clause-moves : goal.returns-clause-moves
returns-clause-moves g c =
    let r = c.requires in
    let old = c.args.system.now in
    rw c.put_edge.ensures
    (Moves-put_edge [] _ _ old c.args.i c.args.j c.in_ok-edge.edge _ _ _ r.whole c.in_ok-edge.ensures.extends (
      IsHeld-at_edge [] old r.whole.square c.args.i c.args.j c.edge-2.result.place r.row r.column c.edge-2.ensures.place,
      (
        IsHeld-at_edge [] old r.whole.square c.args.i c.args.k c.edge-to_k.result.place r.row r.in_range
            c.edge-to_k.ensures.place,
        (
          IsHeld-at_edge [] old r.whole.square c.args.k c.args.j c.edge-from_k.result.place r.in_range r.column
              c.edge-from_k.ensures.place,
          tt,
        ),
      ),
    )
    c.in_ok-edge.ensures.formed)

pub returns-clause-passes : goal.returns-clause-passes
returns-clause-passes g c =
    rw c.put_edge.ensures
    (PassesEdge-put _ _ _ c.requires.whole c.in_ok-edge.ensures.extends c.args.k c.args.i c.args.j c.in_ok-edge.edge
    c.requires.row c.requires.column
    (sym c.is_left.ensures ∙ c.if-not-is_left.false)
    (λ vars. c.in_ok-edge.ensures.formed.value_is vars
    ∙ cc (c.edge-2.ensures.place, c.edge-to_k.ensures.place, c.edge-from_k.ensures.place)))
