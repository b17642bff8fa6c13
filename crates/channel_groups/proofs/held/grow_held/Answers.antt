-- One node and one slot more.
use Rattle.channel_groups.proofs.StoreLemmas.{SameHeld-none, SameHeld-both}
use Rattle.channel_groups.proofs.held.grow_held.Goals as goal

pub loop-held-init : goal.loop-held-init
loop-held-init c = SameHeld-none c.args.held.now.classes.items c.args.held.now.slots.items c.requires

pub loop-held-preserved : goal.loop-held-preserved
loop-held-preserved c =
    rw (c.in_ok-push.ensures.items, c.in_ok-push-2.ensures.items)
    (SameHeld-both c.args.held.now.classes.items c.loop-held.held.classes.items c.args.held.now.slots.items c.loop-held.held.slots.items c.loop-held.invariant)
