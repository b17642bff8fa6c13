-- One root more.
use Rattle.std.proofs.Common.{◌≡◌, take, arith}
use Rattle.std.proofs.lemmas.List.{take_all}
use Rattle.channel_groups.specs.Search.{is_storage}
use Rattle.channel_groups.proofs.FloodLemmas.{filter-count_more}
use Rattle.channel_groups.proofs.SearchLemmas.{AreFoundFrom-none, AreFoundFrom-more, Finds-none, Finds-more, ArePaid-cut, on_err}
use Rattle.channel_groups.proofs.search.try_roots.Goals as goal

pub loop-root-init : goal.loop-root-init
loop-root-init g c = record {
  found = c.requires.found;
  finds = Finds-none c.args.graph.now c.args.roots.now c.args.found.now.seen.keys;
  from = AreFoundFrom-none (take 0 c.args.roots.now) c.args.found.now.fresh.items;
  steps = omega arith;
}

pub loop-root-preserved : goal.loop-root-preserved
loop-root-preserved g c =
    let graph = c.args.graph.now in
    record {
      found = c.in_ok-try_root.ensures.found;
      finds = Finds-more graph c.args.roots.now c.loop-root.root-index c.args.found.now.seen.keys c.loop-root.found.seen.keys
          c.try_root.new.found.seen.keys c.loop-root-test.true c.loop-root.invariant.finds c.in_ok-try_root.ensures.finds;
      from = AreFoundFrom-more c.args.roots.now c.loop-root.root-index c.args.found.now.fresh.items c.loop-root.found.fresh.items
          c.try_root.new.found.fresh.items c.loop-root-test.true c.loop-root.invariant.from c.in_ok-try_root.ensures.from;
      steps =
          let one = c.in_ok-try_root.ensures.steps in
          let so_far = c.loop-root.invariant.steps in
          omega (arith, one, so_far, filter-count_more (is_storage graph) c.args.roots.now c.loop-root.root-index c.loop-root-test.true);
    }

pub returns : goal.returns
returns g c =
    let all : take c.loop-root.root-index c.args.roots.now ≡ c.args.roots.now = take_all c.loop-root.root-index c.args.roots.now (omega arith) in
    let so_far = c.loop-root.invariant in
    record {
      found = so_far.found;
      finds = rw all at so_far.finds;
      from = rw all at so_far.from;
      steps = rw all at so_far.steps;
      err = tt;
    }

pub returns-in_err-try_root-clause-err : goal.returns-in_err-try_root-clause-err
returns-in_err-try_root-clause-err g c =
    let so_far = c.loop-root.invariant in
    on_err c.from_residual.result
    (ArePaid-cut c.args.graph.now c.args.roots.now c.loop-root.root-index c.args.found.now.fresh.items c.loop-root.found.fresh.items
    c.loop-root.found.seen.keys c.args.steps.now c.loop-root.steps c.try_root.new.steps c.loop-root-test.true so_far.found so_far.from so_far.steps
    c.in_err-try_root.ensures.err)
