use Rattle.std.proofs.Common.{◌∙◌}
use Rattle.std.proofs.lemmas.Bool.{OnTrue_at, OnTrue_from}
use Rattle.netlist.proofs.names.stands_alike.Goals as goal

pub returns : goal.returns
returns c = OnTrue_from c.is_entry.result _ (λ set. c.entry_at-node.ensures ∙ OnTrue_at set c.is_entry.ensures)
