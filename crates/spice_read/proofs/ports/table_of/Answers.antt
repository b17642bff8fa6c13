use Rattle.std.proofs.Common.{arith}
use Rattle.spice_read.specs.Ports.{entries_of}
use Rattle.spice_read.proofs.PortsLemmas.{one_more}
use Rattle.spice_read.proofs.ports.table_of.Goals as goal

pub loop-place-preserved : goal.loop-place-preserved
loop-place-preserved c =
    one_more c.args.ports.now c.args.words.now c.loop-place.place c.at.result.now c.at-in-loop-place.result.now (entries_of c.loop-place.table.entries)
    (entries_of c.insert.new.table.entries) _ c.requires (omega (arith, c.loop-place-test.true, c.len-place-end.ensures)) c.at.ensures
    c.at-in-loop-place.ensures c.in_ok-insert.ensures c.loop-place.invariant
