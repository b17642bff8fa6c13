-- The text is cut at its first comma, if it has one.
use Rattle.std.proofs.Common.{sym}
use Rattle.symbol_lines.proofs.ItemLemmas.{comma_cut, comma_none}
use Rattle.symbol_lines.proofs.items.cut_at_comma.Goals as goal

pub returns-in-Some-clause-parts : goal.returns-in-Some-clause-parts
returns-in-Some-clause-parts c = comma_cut c.args.text.now c.in-Some.at (sym c.in-Some.ensures)

pub returns-in-None-clause-parts : goal.returns-in-None-clause-parts
returns-in-None-clause-parts c = comma_none c.args.text.now (sym c.in-None.ensures)
