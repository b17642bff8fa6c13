use Rattle.std.proofs.Common.{◌≡◌, ◌<◌, ◌∙◌, ap, subst, sym, IfSome}
use Rattle.netlist.specs.Names.{held}
use Rattle.netlist.specs.Naming.{NamesData, entries_of, node_count}
use Rattle.netlist.proofs.NameLemmas.{held-entries_of, held-within}
use Rattle.netlist.proofs.names.Names.look_up.Goals as goal

-- the table's answer is the node under which the name is held
found : (c : goal.After-copied) → c.copied.result ≡ held (entries_of c.self.inside.table.entries) c.args.name.now
found c = c.copied.ensures ∙ c.get.ensures.value ∙ held-entries_of c.self.inside.table.entries c.args.name.now

pub returns-clause-value : goal.returns-clause-value
returns-clause-value c = found c ∙ ap (λ (names : NamesData). held names.entries c.args.name.now) c.self.view_is

pub returns-clause-within : goal.returns-clause-within
returns-clause-within c =
    subst (λ (names : NamesData). IfSome c.copied.result (λ node. node < node_count names)) c.self.view_is
    (subst (λ found. IfSome found (λ node. node < node_count (record { entries = entries_of c.self.inside.table.entries; firsts = c.self.inside.firsts.items })))
    (sym (found c)) (held-within _ c.args.name.now _ c.self.invariant.within))
