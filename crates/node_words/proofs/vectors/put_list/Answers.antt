use Rattle.std.proofs.Common.{ap, ◌∙◌}
use Rattle.node_words.specs.Vectors.{lists_of}
use Rattle.node_words.proofs.VectorLemmas.{lists_of-insert}
use Rattle.node_words.proofs.vectors.put_list.Goals as goal

pub returns-in-Ok-clause-ok : goal.returns-in-Ok-clause-ok
returns-in-Ok-clause-ok c = ap lists_of c.in-Ok.ensures.entries ∙ lists_of-insert c.args.table.now.entries c.args.name c.args.list
