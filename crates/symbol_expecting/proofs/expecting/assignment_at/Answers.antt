-- It stands before those behind it.
use Rattle.std.proofs.Common.{◌+◌, ◌∷◌, drop, ap, sym, ◌∙◌}
use Rattle.std.proofs.lemmas.List.{drop_more}
use Rattle.symbol_script.specs.declared.line.Assignment.{Assignment}
use Rattle.symbol_expecting.proofs.expecting.assignment_at.Goals as goal

pub returns : goal.returns
returns c =
    let list = c.args.list.now in
    let own = c.index-list-k.result in
    drop_more list c.args.k own c.requires ∙ ap (λ (one : Assignment). one ∷ drop (c.args.k + 1) list) (sym c.index-list-k.is)
