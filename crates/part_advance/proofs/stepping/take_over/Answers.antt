-- One change more is taken over.
use Rattle.std.proofs.Common.{refl, inl, get_or, ◌∙◌, arith}
use Rattle.std.proofs.lemmas.List.{get_or_default}
use Rattle.part_words.specs.declared.change.Change.{Change}
use Rattle.machine_parts.specs.Readers.{readers_of}
use Rattle.machine_parts.proofs.MarkLemmas.{MarksAll-reached}
use Rattle.wide_groups.proofs.WideCases.{TurnedIn-none, listed_turned}
use Rattle.part_advance.proofs.NextChange.{default_change, next_inside, written_next}
use Rattle.part_advance.proofs.stepping.take_over.Goals as goal

pub loop-change-init : goal.loop-change-init
loop-change-init c = record {
  taken = record { count = refl; taken = λ change there. absurd (omega (arith, there.1)); stays = λ node none. refl };
  marks = record { count = refl; stays = λ k was. was; set = λ k any. absurd (omega (arith, any.changes_it.1)); only = λ k marked. inl marked };
  turned = TurnedIn-none c.args.wide.now c.args.state.now;
  waiting = refl;
}

pub write-requires-clause-listed : goal.write-requires-clause-listed
write-requires-clause-listed c =
    listed_turned c.args.wide.now c.loop-change.wide c.args.state.now c.loop-change.state c.loop-change.invariant.turned
    c.loop-change.invariant.taken.count c.requires.wide

pub write-requires-clause-inside : goal.write-requires-clause-inside
write-requires-clause-inside c = omega (arith, next_inside _ _ _ c.loop-change-test.true c.requires.inside, c.loop-change.invariant.taken.count)

pub of-requires : goal.of-requires
of-requires c = omega (arith, next_inside _ _ _ c.loop-change-test.true c.requires.inside, c.requires.readers)

pub mark_all-requires : goal.mark_all-requires
mark_all-requires c = λ k there.
    let change = get_or c.args.changes.now c.loop-change.change-index default_change in
    let lists = c.of.ensures in
    let part = c.requires.parts change.node k (rw lists at there) in
    omega (arith, part, c.loop-change.invariant.marks.count)

pub loop-change-preserved : goal.loop-change-preserved
loop-change-preserved c =
    let changes = c.args.changes.now in
    let i = c.loop-change.change-index in
    let change = get_or changes i default_change in
    let next = written_next changes i c.args.state.now c.loop-change.state c.write.new.state c.args.wide.now c.loop-change.wide c.write.new.wide c.loop-change-test.true
    c.requires.inside c.requires.agreed c.loop-change.invariant.taken c.loop-change.invariant.turned c.write.ensures.state c.write.ensures.turned in
    record {
      taken = next.0;
      turned = next.1;
      marks = MarksAll-reached (λ (change : Change). readers_of c.args.readers.now change.node) changes i change c.of.result.now c.args.agenda.now.marks c.loop-change.agenda.marks
          c.mark_all.new.agenda.marks c.loop-change-test.true (get_or_default changes i default_change change c.loop-change-test.true) c.of.ensures
          c.loop-change.invariant.marks c.mark_all.ensures.marks;
      waiting = c.mark_all.ensures.waiting ∙ c.loop-change.invariant.waiting;
    }
