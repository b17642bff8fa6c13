-- One place more.
use Rattle.std.proofs.Common.{◌≡◌, take, arith}
use Rattle.std.proofs.lemmas.List.{take_all}
use Rattle.std.proofs.lemmas.List.Elements.{Contains-get_or}
use Rattle.circuit_lint.proofs.StartLemmas.{directs-only, directs-all}
use Rattle.circuit_lint.proofs.starts.direct_starts.Goals as goal

pub direct_at-requires : goal.direct_at-requires
direct_at-requires c = c.requires.inside _ (Contains-get_or c.args.at_vdd.now c.loop-place.place-index 0 c.loop-place-test.true)

pub loop-place-preserved : goal.loop-place-preserved
loop-place-preserved c =
    let found = c.direct_at.ensures in
    let so_far = c.loop-place.invariant in
    let g = c.args.graph.now in
    let places = c.args.at_vdd.now in
    record {
      only = directs-only g places c.loop-place.place-index c.loop-place-test.true _ _ c.direct_at.result found.is found.joined found.all c.in_ok-push_some.ensures so_far.only;
      all = directs-all g places c.loop-place.place-index c.loop-place-test.true _ _ c.direct_at.result found.is found.joined found.all c.in_ok-push_some.ensures so_far.all;
    }

pub returns-clause-all : goal.returns-clause-all
returns-clause-all c place joined =
    let all : take c.loop-place.place-index c.args.at_vdd.now ≡ c.args.at_vdd.now = take_all c.loop-place.place-index c.args.at_vdd.now (omega arith) in
    c.loop-place.invariant.all place (rw all (c.requires.whole place 0 joined)) joined
