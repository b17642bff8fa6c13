use Rattle.std.proofs.Common.{◌≡◌, ℕ, List, Some, sym, ap, ◌∙◌, arith}
use Rattle.std.proofs.lemmas.Bool.{OnTrue_at, OnTrue_from}
use Rattle.netlist.proofs.names.is_entry.Goals as goal

pub returns : goal.returns
returns c =
    let same : c.args.node ≡ c.entry_at-there.result.1 = omega arith in
    OnTrue_from c.is_same.result _ (λ set.
    ap (λ (name : List ℕ). Some (name, c.args.node)) (sym (OnTrue_at set c.is_same.ensures))
    ∙ ap (λ (node : ℕ). Some (c.entry_at-there.result.0.now, node)) same
    ∙ sym c.entry_at-there.ensures)
