-- The members of the node's group are noted.
use Rattle.std.proofs.Common.{◌≡◌, ℕ, List, Some, sym, ap, subst, ◌∙◌}
use Rattle.std.specs.Prelude.{option_map}
use Rattle.channel_groups.specs.Search.{Notes}
use Rattle.channel_groups.specs.Grouping.{group_at_node}
use Rattle.channel_groups.proofs.StoreLemmas.{AddsGroup-noted}
use Rattle.channel_groups.proofs.search.add_touched.Goals as goal

pub returns-clause-adds : goal.returns-clause-adds
returns-clause-adds g c =
    let group = c.in-Some.group.now in
    let at : group_at_node c.args.held.now.classes.items c.args.held.now.slots.items c.args.node ≡ Some group =
    sym c.group_of.ensures ∙ ap (option_map (λ group. group.now)) c.in-Some.is in
    AddsGroup-noted _ group c.args.gone.now.keys c.note.new.seen.keys at
    (subst (λ (members : List ℕ). Notes members c.args.gone.now.keys c.note.new.seen.keys) c.members.ensures c.in_ok-note.ensures.notes)
