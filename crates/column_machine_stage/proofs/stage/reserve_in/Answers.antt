-- The words stay, and what machine there is.
use Rattle.std.proofs.Common.{refl}
use Rattle.column_machine_stage.proofs.ServingLemmas.{highs_roomed, lows_roomed}
use Rattle.column_machine_stage.proofs.stage.reserve_in.Goals as goal

pub returns-in-Still-clause-hi : goal.returns-in-Still-clause-hi
returns-in-Still-clause-hi c = rw c.in-Still.is c.reserve_rails.ensures.hi

pub returns-in-Still-clause-lo : goal.returns-in-Still-clause-lo
returns-in-Still-clause-lo c = rw c.in-Still.is c.reserve_rails.ensures.lo

pub returns-in-Still-clause-machine : goal.returns-in-Still-clause-machine
returns-in-Still-clause-machine c = rw c.in-Still.is refl

pub returns-in-Built-clause-hi : goal.returns-in-Built-clause-hi
returns-in-Built-clause-hi c = rw c.in-Built.is (highs_roomed c.in-Built.machine c.reserve.new.self c.reserve.ensures.same)

pub returns-in-Built-clause-lo : goal.returns-in-Built-clause-lo
returns-in-Built-clause-lo c = rw c.in-Built.is (lows_roomed c.in-Built.machine c.reserve.new.self c.reserve.ensures.same)

pub returns-in-Built-clause-machine : goal.returns-in-Built-clause-machine
returns-in-Built-clause-machine c = rw c.in-Built.is (c.reserve.new.self, refl, c.reserve.ensures.same)
