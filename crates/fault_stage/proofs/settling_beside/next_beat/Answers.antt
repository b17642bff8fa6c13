-- The phase is one of the record, and comes next.
use Rattle.std.proofs.lemmas.Bool.{OnTrue_at}
use Rattle.fault_stage.proofs.settling_beside.next_beat.Goals as goal

pub returns-then-comes : goal.returns-then-comes
returns-then-comes c = record { is = c.in-Some.ensures; comes = OnTrue_at c.if-comes.true c.comes.ensures }
