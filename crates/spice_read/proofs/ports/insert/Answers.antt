use Rattle.std.proofs.Common.{ap, ◌∙◌}
use Rattle.spice_read.specs.Ports.{entries_of}
use Rattle.spice_read.proofs.PortsLemmas.{entries_of-insert}
use Rattle.spice_read.proofs.ports.insert.Goals as goal

pub returns-in-Ok : goal.returns-in-Ok
returns-in-Ok c = ap entries_of c.in-Ok.ensures.entries ∙ entries_of-insert c.args.table.now.entries c.args.name c.args.word
