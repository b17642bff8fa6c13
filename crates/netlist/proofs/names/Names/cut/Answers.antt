use Rattle.std.proofs.Common.{◌≡◌, subst, sym}
use Rattle.netlist.specs.Naming.{IsNaming, cut, entries_of}
use Rattle.netlist.proofs.NamingLemmas.{cut-entries_of}
use Rattle.netlist.proofs.names.Names.cut.Goals as goal

-- what is left of the names and nodes
left : (c : goal.After-truncate-2) →
    record { entries = entries_of c.truncate.new.self.entries; firsts = c.truncate-2.new.self.items } ≡ cut c.args.self.now c.args.mark.names c.args.mark.nodes
left c =
    cut-entries_of c.self.inside.table.entries c.truncate.new.self.entries c.self.inside.firsts.items c.truncate-2.new.self.items
    c.args.mark.names c.args.mark.nodes c.args.self.now c.self.view_is c.truncate.ensures.entries c.truncate-2.ensures.items

pub invariant_of-self : goal.invariant_of-self
invariant_of-self c = subst IsNaming (sym (left c)) c.requires

pub returns : goal.returns
returns c = left c
