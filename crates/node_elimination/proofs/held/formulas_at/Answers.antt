-- The formulas at a place are those of its row.
use Rattle.std.proofs.Common.{sym, ◌∙◌}
use Rattle.node_elimination.proofs.HeldTableLemmas.{row_formulas}
use Rattle.node_elimination.proofs.held.formulas_at.Goals as goal

pub returns : goal.returns
returns c =
    c.deref.ensures.value
    ∙ sym (row_formulas c.args.held.now.entries c.args.place (c.in-Some.field-0-0.now, c.in-Some.ids.now) (sym c.in-Some.ensures.entry))
