-- Each slot that isn't empty is a group.
use Rattle.std.proofs.Common.{List, Option, length, ap, ◌∙◌}
use Rattle.std.specs.Prelude.{count_by, is_some}
use Rattle.group_meaning.specs.Groups.{Group}
use Rattle.channel_groups.specs.Grouping.{GroupsData}
use Rattle.channel_groups.proofs.HeldLemmas.{count_held}
use Rattle.channel_groups.proofs.groups.Groups.count.Goals as goal

pub returns : goal.returns
returns c =
    c.count_some.ensures
    ∙ ap (λ (slots : List (Option Group)). count_by is_some slots) c.deref.ensures.value
    ∙ count_held c.self.inside.held.slots.items
    ∙ ap (λ (m : GroupsData). length m.groups) c.self.view_is
