-- The copy is confined.
use Rattle.std.proofs.Common.{subst, sym, ap, ◌∙◌}
use Rattle.switch_paths.specs.Graphs.{nodes}
use Rattle.wide_groups.specs.Confined.{IsConfined}
use Rattle.wide_groups.proofs.ConfinedLemmas.{IsConfined-from}
use Rattle.wide_groups.proofs.confined.confined.Goals as goal

pub confine_nodes-requires : goal.confine_nodes-requires
confine_nodes-requires c = c.requires ∙ sym (ap nodes c.in_ok-held.ensures)

pub confine_places-requires : goal.confine_places-requires
confine_places-requires c = c.requires ∙ sym (ap nodes c.in_ok-held.ensures) ∙ sym c.confine_nodes.ensures.count

pub returns : goal.returns
returns c =
    let inside = c.args.members.now.inside in
    subst (λ g. IsConfined g inside c.confine_places.new.graph) c.in_ok-held.ensures
    (IsConfined-from inside _ c.confine_nodes.new.graph c.confine_places.new.graph c.confine_nodes.ensures c.confine_places.ensures)
