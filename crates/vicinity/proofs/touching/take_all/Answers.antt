-- One change more.
use Rattle.std.proofs.Common.{sym, subst, arith}
use Rattle.std.proofs.lemmas.List.Elements.{Contains-get_or}
use Rattle.ternary.specs.declared.tern.Tern.TheVariants.{Zero}
use Rattle.part_words.specs.declared.change.Change.{Change}
use Rattle.vicinity.proofs.TouchLemmas.{IsTaken-more, Touches-then, NoneTwice, none_twice-next}
use Rattle.vicinity.proofs.touching.take_all.Goals as goal

pub take_state-requires-clause-inside : goal.take_state-requires-clause-inside
take_state-requires-clause-inside c = c.requires.inside _ (Contains-get_or c.args.changes.now c.loop-change.change-index _ c.loop-change-test.true)

pub loop-change-preserved : goal.loop-change-preserved
loop-change-preserved c =
    let d : Change = record { node = 0; value = Zero } in
    let inside = c.requires.inside _ (Contains-get_or c.args.changes.now c.loop-change.change-index d c.loop-change-test.true) in
    let once = none_twice-next c.args.changes.now c.loop-change.change-index d c.args.state.now c.loop-change.state c.loop-change-test.true
    (omega (arith, inside, c.requires.counted, c.loop-change.invariant.taken.count)) c.requires.agreed c.loop-change.invariant.taken in
    record {
      taken = rw c.take_state.ensures.state
          (IsTaken-more c.args.changes.now c.loop-change.change-index d c.args.state.now c.loop-change.state c.loop-change-test.true
          (omega (arith, inside, c.requires.counted)) c.requires.agreed c.loop-change.invariant.taken);
      lists = c.take_state.ensures.lists;
      touches = Touches-then c.args.graph.now c.args.state.now c.loop-change.state c.take_state.new.state c.args.touched.now.inside
          c.loop-change.touched.inside c.take_state.new.touched.inside
          (subst (NoneTwice c.args.state.now c.loop-change.state) (sym c.take_state.ensures.state) once)
          c.loop-change.invariant.touches c.take_state.ensures.touches;
    }
