-- The place, and then the first way down from where it leads.
use Rattle.std.proofs.Common.{ℕ, List, [], ◌∷◌, ◌++◌, ap, ◌∙◌}
use Rattle.circuit_lint.proofs.shorts.way_from.Goals as goal

pub returns : goal.returns
returns c =
    let down = c.in_ok-go_down.ensures in
    let place = c.args.place in
    record {
      node = c.entered-node.result;
      enters = c.entered-node.ensures.enters;
      rest = down.rest;
      splits = down.grown ∙ ap (λ (xs : List ℕ). xs ++ down.rest) (c.in_ok-push.ensures.items ∙ ap (λ (xs : List ℕ). xs ++ place ∷ []) c.new-way.ensures.items);
      is = down.is;
    }
