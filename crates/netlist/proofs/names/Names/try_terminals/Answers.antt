use Rattle.netlist.proofs.NamingLemmas.{Extends-on, HasNode-Extends}
use Rattle.netlist.proofs.names.Names.try_terminals.Goals as goal

pub returns-in_err-source-clause-grown : goal.returns-in_err-source-clause-grown
returns-in_err-source-clause-grown c = Extends-on c.node_or_new.ensures.grown c.node_or_new-2.ensures.grown

pub returns-in_err-drain-clause-grown : goal.returns-in_err-drain-clause-grown
returns-in_err-drain-clause-grown c =
    Extends-on c.node_or_new.ensures.grown (Extends-on c.node_or_new-2.ensures.grown c.node_or_new-3.ensures.grown)

pub returns-clause-nodes : goal.returns-clause-nodes
returns-clause-nodes c = record {
  gate = HasNode-Extends (HasNode-Extends c.in_ok-gate.ensures.node c.node_or_new-2.ensures.grown) c.node_or_new-3.ensures.grown;
  source = HasNode-Extends c.in_ok-source.ensures.node c.node_or_new-3.ensures.grown;
  drain = c.in_ok-drain.ensures.node;
}

pub returns-clause-grown : goal.returns-clause-grown
returns-clause-grown c =
    Extends-on c.node_or_new.ensures.grown (Extends-on c.node_or_new-2.ensures.grown c.node_or_new-3.ensures.grown)
