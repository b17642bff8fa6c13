use Rattle.netlist.proofs.NamingLemmas.{Extends-same, Extends-added_more}
use Rattle.netlist.proofs.names.Names.add_name_of.Goals as goal

pub returns-in-Some-clause-grown : goal.returns-in-Some-clause-grown
returns-in-Some-clause-grown c = Extends-same c.args.self.now

pub returns-in-None-clause-grown : goal.returns-in-None-clause-grown
returns-in-None-clause-grown c =
    Extends-added_more c.add_more.result c.args.self.now c.add_more.new.self c.args.name.now c.args.node c.add_more.ensures.ok c.add_more.ensures.err
