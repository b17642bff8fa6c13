-- The right side past k is formed, and put.
use Rattle.std.proofs.Common.{[], ◌∙◌}
use Rattle.node_elimination.proofs.EquationsLemmas.{IsHeld-at_edge, IsHeld-at_right, Moves-put_right}
use Rattle.node_elimination.proofs.PassingLemmas.{PutsRight-put}
use Rattle.node_elimination.proofs.solve.pass_right.Goals as goal

pub returns-clause-moves : goal.returns-clause-moves
returns-clause-moves g c =
    let r = c.requires in
    let old = c.args.system.now in
    rw c.put_right.ensures
    (Moves-put_right [] _ _ old c.args.i c.in_ok-right.right _ _ _ r.whole c.in_ok-right.ensures.extends (
      IsHeld-at_right [] old r.whole.square c.args.i c.right.result.place r.row c.right.ensures.place,
      (
        IsHeld-at_edge [] old r.whole.square c.args.i c.args.k c.edge-to_k.result.place r.row r.in_range
            c.edge-to_k.ensures.place,
        (IsHeld-at_right [] old r.whole.square c.args.k c.right-of_k.result.place r.in_range c.right-of_k.ensures.place, tt),
      ),
    )
    c.in_ok-right.ensures.formed)

pub returns-clause-passes : goal.returns-clause-passes
returns-clause-passes g c =
    rw c.put_right.ensures
    (PutsRight-put _ _ _ c.requires.whole c.in_ok-right.ensures.extends c.args.i c.in_ok-right.right _ c.requires.row
    (λ vars. c.in_ok-right.ensures.formed.value_is vars
    ∙ cc (c.right.ensures.place, c.edge-to_k.ensures.place, c.right-of_k.ensures.place)))
