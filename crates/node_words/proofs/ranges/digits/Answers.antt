use Rattle.std.proofs.Common.{sym}
use Rattle.node_words.proofs.RangeLemmas.{digits-all}
use Rattle.node_words.proofs.ranges.digits.Goals as goal

pub returns-in-None-clause-value : goal.returns-in-None-clause-value
returns-in-None-clause-value c = digits-all c.args.text.now (sym c.in-None.ensures)
