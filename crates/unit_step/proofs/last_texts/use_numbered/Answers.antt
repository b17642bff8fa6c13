-- Without a number nothing is used.
use Rattle.std.proofs.Common.{sym}
use Rattle.analysis_cache.specs.Keeping.{texts_of}
use Rattle.analysis_cache.proofs.OrderLemmas.{used_texts-none}
use Rattle.unit_step.proofs.last_texts.use_numbered.Goals as goal

pub returns-in_default-clause-texts : goal.returns-in_default-clause-texts
returns-in_default-clause-texts c = rw c.in_default.is (sym (used_texts-none (texts_of c.args.kept.now)))
