use Rattle.std.proofs.Common.{◌≡◌, Some, slice_get, subst, sym}
use Rattle.netlist.specs.Naming.{NamesData}
use Rattle.netlist.proofs.NamingLemmas.{stands-entries_of}
use Rattle.netlist.proofs.names.Names.entry_at.Goals as goal

pub returns : goal.returns
returns c =
    subst (λ name. slice_get c.args.self.now.entries c.args.place ≡ Some (name, c.in-Some.node.now)) (sym c.deref.ensures.value)
    (subst (λ (names : NamesData). slice_get names.entries c.args.place ≡ Some (c.in-Some.name.now.items, c.in-Some.node.now)) c.self.view_is
    (stands-entries_of c.self.inside.table.entries c.args.place c.in-Some.name.now c.in-Some.node.now c.in-Some.ensures.entry))
