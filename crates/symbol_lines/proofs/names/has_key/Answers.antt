-- A look-up by a name's bytes.
use Rattle.std.proofs.Common.{◌∙◌}
use Rattle.symbol_lines.proofs.NameLemmas.{has_name_keys}
use Rattle.symbol_lines.proofs.names.has_key.Goals as goal

pub returns : goal.returns
returns c = c.contains.ensures ∙ has_name_keys c.args.table.now.keys c.args.name.now
