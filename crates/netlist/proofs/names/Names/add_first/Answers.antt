use Rattle.std.proofs.Common.{◌≡◌, ◌++◌, ◌∷◌, [], None, ap, sym, ◌∙◌}
use Rattle.std.proofs.lemmas.List.{length-map}
use Rattle.netlist.specs.Names.{node_of}
use Rattle.netlist.specs.Naming.{NamesData, node_count, entries_of}
use Rattle.netlist.proofs.NamingLemmas.{IsNaming-added_first}
use Rattle.netlist.proofs.names.Names.add_first.Goals as goal

-- the copy of the name isn't in use either
unused : (c : goal.After-note_guess) → node_of (entries_of c.self.inside.table.entries) c.in_ok-word.word.items ≡ None
unused c =
    ap (node_of (entries_of c.self.inside.table.entries)) (c.in_ok-word.ensures.items_if_clones_equal (λ _ _ same. same))
    ∙ ap (λ (naming : NamesData). node_of naming.entries c.args.name.now) c.self.view_is
    ∙ c.requires

pub invariant_of-self-2 : goal.invariant_of-self-2
invariant_of-self-2 c =
    IsNaming-added_first (record { entries = entries_of c.self.inside.table.entries; firsts = c.self.inside.firsts.items })
    _ _ c.in_ok-word.word.items c.nodes-node.result c.len-place.result c.self.invariant (unused c)
    (c.nodes-node.ensures ∙ ap node_count (sym c.self.view_is))
    (c.len-place.ensures.len ∙ sym (length-map c.self.inside.table.entries _)) c.in_ok-put_new.ensures.ok
    (c.push_reserved.ensures.items ∙ ap (λ firsts. firsts ++ c.len-place.result ∷ []) c.reserve.ensures.items)
