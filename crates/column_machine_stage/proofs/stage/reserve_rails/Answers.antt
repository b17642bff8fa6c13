use Rattle.std.proofs.Common.{arith}
use Rattle.column_machine_stage.proofs.stage.reserve_rails.Goals as goal

pub returns-clause-room : goal.returns-clause-room
returns-clause-room c =
    omega (arith, c.in_ok-reserve.ensures.ok, c.reserve.ensures.len, c.in_ok-reserve-2.ensures.ok, c.reserve-2.ensures.len)
