-- The members have the group's class, and it stands at its id.
use Rattle.std.proofs.Common.{◌≡◌, ℕ, List, subst, ◌∙◌, arith}
use Rattle.group_meaning.specs.Groups.{id_of}
use Rattle.channel_groups.specs.Writing.{Marks}
use Rattle.channel_groups.proofs.WritingLemmas.{Puts-one}
use Rattle.channel_groups.proofs.held.put.Goals as goal

pub returns-clause-puts : goal.returns-clause-puts
returns-clause-puts g c =
    let id : c.node-id.result ≡ id_of c.args.group = c.node-id.ensures ∙ c.id.ensures in
    let marks : Marks c.args.group.members (id_of c.args.group) c.args.held.now.classes.items c.mark.new.classes.items =
    subst (λ (k : ℕ). Marks c.args.group.members k c.args.held.now.classes.items c.mark.new.classes.items) id
    (subst (λ (members : List ℕ). Marks members c.node-id.result c.args.held.now.classes.items c.mark.new.classes.items) c.members.ensures c.mark.ensures.marks) in
    let least = c.requires.inside.below 0 0 c.requires.inside.some in
    rw (c.set_slot.ensures, id)
    (Puts-one c.args.group c.args.held.now.classes.items c.mark.new.classes.items c.args.held.now.slots.items marks (omega (arith, least, c.requires.counted)))
