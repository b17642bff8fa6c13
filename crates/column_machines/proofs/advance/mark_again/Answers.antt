-- One part more is marked, if it stays so.
use Rattle.std.proofs.Common.{inl, refl, arith}
use Rattle.std.proofs.lemmas.List.Elements.{Contains-get_or}
use Rattle.column_machines.proofs.TakingLemmas.{MarksAll-on}
use Rattle.column_machines.proofs.advance.mark_again.Goals as goal

pub loop-k-init : goal.loop-k-init
loop-k-init c = record {
  count = refl;
  stays = λ k was. was;
  set = λ k (there, either). let (i, inside, here) = there in absurd (omega (arith, inside));
  only = λ k marked. inl marked;
}

pub stays_at-requires : goal.stays_at-requires
stays_at-requires c = c.requires.inside _ (Contains-get_or c.args.done.now c.loop-k.k-index 0 c.loop-k-test.true)

pub mark_if-requires : goal.mark_if-requires
mark_if-requires c =
    let inside = c.requires.inside _ (Contains-get_or c.args.done.now c.loop-k.k-index 0 c.loop-k-test.true) in
    omega (arith, inside, c.requires.counted, c.loop-k.invariant.count)

pub loop-k-preserved : goal.loop-k-preserved
loop-k-preserved c =
    MarksAll-on c.args.joining c.args.parts.now c.args.done.now c.loop-k.k-index _ c.stays_at.result c.args.agenda.now c.loop-k.agenda c.mark_if.new.agenda
    c.loop-k-test.true refl c.stays_at.ensures c.loop-k.invariant c.mark_if.ensures
