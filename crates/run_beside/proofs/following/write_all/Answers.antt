-- One change more is written.
use Rattle.std.proofs.Common.{refl, arith}
use Rattle.wide_groups.proofs.WideCases.{TurnedIn-none, listed_turned}
use Rattle.part_advance.proofs.NextChange.{next_inside, written_next}
use Rattle.run_beside.proofs.following.write_all.Goals as goal

pub loop-change-init : goal.loop-change-init
loop-change-init c = record {
  taken = record { count = refl; taken = λ change there. absurd (omega (arith, there.1)); stays = λ node none. refl };
  turned = TurnedIn-none c.args.wide.now c.args.state.now;
}

pub write-requires-clause-listed : goal.write-requires-clause-listed
write-requires-clause-listed c =
    listed_turned c.args.wide.now c.loop-change.wide c.args.state.now c.loop-change.state c.loop-change.invariant.turned
    c.loop-change.invariant.taken.count c.requires.wide

pub write-requires-clause-inside : goal.write-requires-clause-inside
write-requires-clause-inside c = omega (arith, next_inside _ _ _ c.loop-change-test.true c.requires.inside, c.loop-change.invariant.taken.count)

pub loop-change-preserved : goal.loop-change-preserved
loop-change-preserved c =
    let next = written_next c.args.changes.now c.loop-change.change-index c.args.state.now c.loop-change.state c.write.new.state c.args.wide.now c.loop-change.wide
    c.write.new.wide c.loop-change-test.true c.requires.inside c.requires.agreed c.loop-change.invariant.taken c.loop-change.invariant.turned
    c.write.ensures.state c.write.ensures.turned in
    record { taken = next.0; turned = next.1 }
