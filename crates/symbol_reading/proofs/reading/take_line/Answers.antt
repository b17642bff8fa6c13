-- The names are taken, or refused.
use Rattle.std.specs.Option.{option_copied}
use Rattle.symbol_reading.proofs.ReadingLemmas.{stopped, taken}
use Rattle.symbol_reading.proofs.reading.take_line.Goals as goal

pub returns-in-Ok : goal.returns-in-Ok
returns-in-Ok c =
    taken c.args.names.now c.enter.new.self c.args.bound.now c.take_bound.new.bound c.args.asked.now c.in_ok-used.used
    (option_copied c.defined_name-defines.result) c.in_ok-used.ensures c.defined_name-defines.ensures (rw c.items.ensures at c.in-Ok.ensures.allowed)
    (rw c.items.ensures at c.in-Ok.ensures.ok)
    c.take_bound.ensures

pub returns : goal.returns
returns c =
    stopped c.args.names.now c.enter.new.self c.args.bound.now c.args.asked.now c.in_ok-used.used (option_copied c.defined_name-defines.result)
    c.in-Err.fault c.refused.result c.in_ok-used.ensures c.defined_name-defines.ensures (rw c.items.ensures at c.in-Err.ensures.refused)
    c.in-Err.ensures.err c.refused.ensures
