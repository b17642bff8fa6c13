-- One member more has the class.
use Rattle.std.proofs.Common.{◌≡◌, take, arith}
use Rattle.std.proofs.lemmas.List.{take_all}
use Rattle.channel_groups.proofs.WritingLemmas.{Marks-none, Marks-more}
use Rattle.channel_groups.proofs.held.mark.Goals as goal

pub loop-member-init : goal.loop-member-init
loop-member-init g c = record { marks = Marks-none c.args.members.now c.args.id c.args.classes.now.items; steps = omega arith }

pub loop-member-preserved : goal.loop-member-preserved
loop-member-preserved g c =
    let so_far = c.loop-member.invariant in
    record {
      marks = Marks-more c.args.members.now c.args.id c.loop-member.member-index c.args.classes.now.items c.loop-member.classes.items
          c.loop-member-test.true (omega (arith, so_far.marks.count, c.requires c.loop-member.member-index 0 c.loop-member-test.true)) so_far.marks;
      steps = omega (arith, so_far.steps, c.tick.ensures);
    }

pub returns : goal.returns
returns g c =
    let all : take c.loop-member.member-index c.args.members.now ≡ c.args.members.now = take_all c.loop-member.member-index c.args.members.now (omega arith) in
    let so_far = c.loop-member.invariant in
    record { marks = rw all at so_far.marks; steps = omega (arith, so_far.steps) }
