-- The name that stands there is in use for its node.
use Rattle.std.proofs.Common.{subst, sym, ◌∙◌}
use Rattle.std.proofs.lemmas.Bool.{OnTrue_at}
use Rattle.netlist.specs.Naming.{HasNode, NamesData, entries_of}
use Rattle.netlist.proofs.NamingLemmas.{node_there, stands-entries_of}
use Rattle.netlist.proofs.names.Names.node_at.Goals.{Then-is_same}
use Rattle.netlist.proofs.names.Names.node_at.Goals as goal

-- the name is in use for the node
there : (c : Then-is_same) → HasNode c.args.self.now c.args.name.now c.in-Some.node.now
there c =
    subst (λ name. HasNode c.args.self.now name c.in-Some.node.now) (sym c.deref.ensures.value ∙ OnTrue_at c.if-is_same.true c.is_same.ensures)
    (subst (λ (names : NamesData). HasNode names c.in-Some.found.now.items c.in-Some.node.now) c.self.view_is
    (node_there (record { entries = entries_of c.self.inside.table.entries; firsts = c.self.inside.firsts.items })
    c.args.place c.in-Some.found.now.items c.in-Some.node.now c.self.invariant
    (stands-entries_of c.self.inside.table.entries c.args.place c.in-Some.found.now c.in-Some.node.now c.in-Some.ensures.entry)))

pub returns-then-is_same-clause-value : goal.returns-then-is_same-clause-value
returns-then-is_same-clause-value c = (there (goal.at.returns-then-is_same-clause-value c).Then-is_same).found

pub returns-then-is_same-clause-within : goal.returns-then-is_same-clause-within
returns-then-is_same-clause-within c = (there (goal.at.returns-then-is_same-clause-within c).Then-is_same).within
