use Rattle.std.proofs.Common.{refl, sym}
use Rattle.std.proofs.lemmas.Bool.{OnFalse_at}
use Rattle.column_machine_stage.proofs.ServingLemmas.{last_turn}
use Rattle.column_machine_stage.proofs.stage.without_turn.Goals as goal

pub returns-then-is_together-clause-machine : goal.returns-then-is_together-clause-machine
returns-then-is_together-clause-machine c = refl

pub returns-clause-last : goal.returns-clause-last
returns-clause-last c = sym (last_turn c.args.machine (OnFalse_at c.if-is_together.false c.is_together.ensures.no))
