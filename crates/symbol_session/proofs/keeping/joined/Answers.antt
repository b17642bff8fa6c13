-- One behind the other, whatever is joined first.
use Rattle.std.proofs.Common.{◌++◌, List, ap, ◌∙◌, append_assoc}
use Rattle.decision_graph.specs.declared.vertex.Function.{Function}
use Rattle.symbol_session.proofs.keeping.joined.Goals as goal

pub returns : goal.returns
returns c =
    let front = c.args.front.now in
    let highs = c.args.highs.now in
    let lows = c.args.lows.now in
    let rest = c.args.rest.now in
    c.in_ok-extend_from_slice-3.ensures.items
    ∙ ap (λ (list : List Function). list ++ rest)
    (c.in_ok-extend_from_slice-2.ensures.items
    ∙ ap (λ (list : List Function). list ++ lows)
    (c.in_ok-extend_from_slice.ensures.items ∙ ap (λ (list : List Function). list ++ highs) c.in_ok-made.ensures.items))
    ∙ append_assoc (front ++ highs) lows rest ∙ append_assoc front highs (lows ++ rest)
