-- The look before ends there.
use Rattle.std.proofs.Common.{◌∙◌, arith}
use Rattle.good_run.proofs.LookLemmas.{from_of_later}
use Rattle.good_run.proofs.recorder.end_before.Goals as goal

pub returns : goal.returns
returns c = c.end_of.ensures ∙ from_of_later c.args.looks.now c.args.at (omega arith)
