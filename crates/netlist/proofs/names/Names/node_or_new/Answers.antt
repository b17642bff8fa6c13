use Rattle.std.proofs.Common.{sym}
use Rattle.netlist.proofs.NamingLemmas.{Extends-same, Extends-added_first, HasNode-added_first}
use Rattle.netlist.proofs.names.Names.node_or_new.Goals as goal

pub returns-in-Some-clause-grown : goal.returns-in-Some-clause-grown
returns-in-Some-clause-grown c = Extends-same c.args.self.now

pub returns-in-None-clause-node : goal.returns-in-None-clause-node
returns-in-None-clause-node c =
    HasNode-added_first c.add_first.result c.args.self.now c.add_first.new.self c.args.name.now (sym c.in-None.ensures.value)
    c.add_first.ensures.ok c.add_first.ensures.number

pub returns-in-None-clause-grown : goal.returns-in-None-clause-grown
returns-in-None-clause-grown c =
    Extends-added_first c.add_first.result c.args.self.now c.add_first.new.self c.args.name.now c.add_first.ensures.ok c.add_first.ensures.err
