-- One line was heard, or a part of it.
use Rattle.told_lines.proofs.HearingLemmas.{one_heard}
use Rattle.symbol_looking.proofs.telling.tell_line.Goals as goal

pub returns-clause-heard : goal.returns-clause-heard
returns-clause-heard g c = one_heard g.L.SymbolLines.hear g.L.SymbolLines.part _ _ _ c.tell.result c.tell.ensures.ok c.tell.ensures.part
