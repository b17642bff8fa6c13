use Rattle.std.proofs.Common.{◌≡◌, ◌<◌, ◌∙◌, None, ap, subst, sym}
use Rattle.netlist.specs.Names.{node_of}
use Rattle.netlist.specs.Naming.{NamesData, node_count, entries_of}
use Rattle.netlist.proofs.NamingLemmas.{IsNaming-added_more}
use Rattle.netlist.proofs.names.Names.add_more.Goals as goal

-- the copy of the name isn't in use either
unused : (c : goal.After-note_guess) → node_of (entries_of c.self.inside.table.entries) c.in_ok-word.word.items ≡ None
unused c =
    ap (node_of (entries_of c.self.inside.table.entries)) (c.in_ok-word.ensures.items_if_clones_equal (λ _ _ same. same))
    ∙ ap (λ (naming : NamesData). node_of naming.entries c.args.name.now) c.self.view_is
    ∙ c.requires.unused

pub invariant_of-self : goal.invariant_of-self
invariant_of-self c =
    IsNaming-added_more c.put_new-told.result (record { entries = entries_of c.self.inside.table.entries; firsts = c.self.inside.firsts.items })
    _ c.in_ok-word.word.items c.args.node c.self.invariant (unused c)
    (subst (λ (naming : NamesData). c.args.node < node_count naming) (sym c.self.view_is) c.requires.in_range) c.put_new-told.ensures.ok
    c.put_new-told.ensures.err
