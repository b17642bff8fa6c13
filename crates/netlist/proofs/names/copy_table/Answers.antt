use Rattle.std.proofs.Common.{◌++◌, ◌∷◌, [], ap, sym, ◌∙◌}
use Rattle.netlist.specs.Names.{held}
use Rattle.netlist.specs.Naming.{entries_of}
use Rattle.netlist.proofs.NamingLemmas.{held-before, stands-entries_of, take-one_more}
use Rattle.netlist.proofs.names.copy_table.Goals as goal

-- the names that were copied so far come before this one
pub put_new-requires : goal.put_new-requires
put_new-requires c =
    let entries = entries_of c.args.table.now.entries in
    let stands = stands-entries_of c.args.table.now.entries c.loop-place.place c.in-Some.name.now c.in-Some.node.now c.in-Some.ensures.entry in
    ap (held (entries_of c.loop-place.copy.entries)) (c.in_ok-word.ensures.items_if_clones_equal (λ _ _ same. same) ∙ c.deref.ensures.value)
    ∙ ap (λ names. held names c.in-Some.name.now.items) c.loop-place.invariant
    ∙ held-before entries c.loop-place.place c.in-Some.name.now.items c.in-Some.node.now c.requires stands

pub loop-place-preserved : goal.loop-place-preserved
loop-place-preserved c =
    let entries = entries_of c.args.table.now.entries in
    let place = c.loop-place.place in
    let stands = stands-entries_of c.args.table.now.entries place c.in-Some.name.now c.in-Some.node.now c.in-Some.ensures.entry in
    c.in_ok-put_new.ensures.ok
    ∙ ap (λ word. entries_of c.loop-place.copy.entries ++ (word, c.in-Some.node.now) ∷ []) (c.in_ok-word.ensures.items_if_clones_equal (λ _ _ same. same) ∙ c.deref.ensures.value)
    ∙ ap (λ names. names ++ (c.in-Some.name.now.items, c.in-Some.node.now) ∷ []) c.loop-place.invariant
    ∙ sym (take-one_more entries place (c.in-Some.name.now.items, c.in-Some.node.now) stands)
