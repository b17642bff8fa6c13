use Rattle.told_lines.proofs.HearingLemmas.{one_heard}
use Rattle.node_looks.proofs.telling.tell_one.Goals as goal

pub returns-clause-sent : goal.returns-clause-sent
returns-clause-sent g c = one_heard g.L.Lines.hear g.L.Lines.part _ _ _ c.tell.result c.tell.ensures.ok c.tell.ensures.part
