-- The next part's bits are the rails of its input.
use Rattle.std.proofs.Common.{◌+◌, get_or, arith}
use Rattle.std.specs.Prelude.{slice_index}
use Rattle.std.proofs.lemmas.Option.{slice_get-get_or, slice_get_within}
use Rattle.ternary.specs.Tern.{may_one, may_zero}
use Rattle.switch_paths.specs.Switching.{state_at}
use Rattle.part_words.proofs.GatherLemmas.{AreSet-none, AreSet-more}
use Rattle.part_words.proofs.gather.rails_of.Goals as goal

pub loop-column-init : goal.loop-column-init
loop-column-init c =
    let state = c.args.state.now in
    let nodes = c.args.nodes.now in
    record {
      ones = AreSet-none c.args.starts.now (λ at. may_one (state_at state (slice_index nodes (at + c.args.j))));
      others = AreSet-none c.args.starts.now (λ at. may_zero (state_at state (slice_index nodes (at + c.args.j))));
    }

pub loop-column-preserved : goal.loop-column-preserved
loop-column-preserved c =
    let state = c.args.state.now in
    let nodes = c.args.nodes.now in
    let starts = c.args.starts.now in
    let column = c.loop-column.column in
    let at = get_or starts column 0 in
    let here = slice_get-get_or starts column 0 (omega arith) in
    record {
      ones = AreSet-more column at starts c.loop-column.hi c.with_bit-hi.result (λ at. may_one (state_at state (slice_index nodes (at + c.args.j)))) c.may_one.result
          here c.may_one.ensures c.with_bit-hi.ensures.same c.with_bit-hi.ensures.other c.loop-column.invariant.ones;
      others = AreSet-more column at starts c.loop-column.lo c.with_bit-lo.result (λ at. may_zero (state_at state (slice_index nodes (at + c.args.j)))) c.may_zero.result
          here c.may_zero.ensures c.with_bit-lo.ensures.same c.with_bit-lo.ensures.other c.loop-column.invariant.others;
    }

pub returns : goal.returns
returns c column at found = record {
  one = c.loop-column.invariant.ones.below column at (omega (arith, slice_get_within c.args.starts.now column at found)) found;
  other = c.loop-column.invariant.others.below column at (omega (arith, slice_get_within c.args.starts.now column at found)) found;
}
