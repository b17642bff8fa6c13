-- There are as many functions as names.
use Rattle.std.proofs.Common.{sym, ◌∙◌}
use Rattle.symbol_lines.proofs.NameLemmas.{length_keys}
use Rattle.formula_functions.proofs.table.NamedFunctions.functions.Goals as goal

pub returns-clause-counted : goal.returns-clause-counted
returns-clause-counted c = rw (← c.self.view_is) (c.self.invariant ∙ sym (length_keys c.self.inside.names.keys))
