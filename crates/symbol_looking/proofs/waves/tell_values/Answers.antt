-- One line was heard, or a part of it.
use Rattle.symbol_looking.proofs.HeardLemmas.{line_heard}
use Rattle.symbol_looking.proofs.waves.tell_values.Goals as goal

pub returns-clause-heard : goal.returns-clause-heard
returns-clause-heard g c = line_heard g.L.SymbolLines.hear g.L.SymbolLines.part _ _ _ c.tell.result c.tell.ensures.ok c.tell.ensures.part
