-- One node more is tried.
use Rattle.std.proofs.Common.{◌≡◌, inl, inr, [], arith}
use Rattle.std.proofs.lemmas.Bool.{cases_lt}
use Rattle.list_facts.proofs.ContainsLemmas.{Contains-cons_first}
use Rattle.channel_groups.proofs.SearchLemmas.{AreFound-none}
use Rattle.channel_groups.proofs.groups.find_all.Goals as goal

pub loop-node-init : goal.loop-node-init
loop-node-init g c = record {
  found = rw (c.new.ensures.empty, c.new-2.ensures.items) (AreFound-none c.args.graph.now);
  rooted = λ n below storage. absurd (omega arith);
}

pub try_root-requires-clause-found : goal.try_root-requires-clause-found
try_root-requires-clause-found g c = c.loop-node.invariant.found

pub loop-node-preserved : goal.loop-node-preserved
loop-node-preserved g c =
    let node = c.loop-node.node in
    let finds = c.in_ok-try_root.ensures.finds in
    record {
      found = c.in_ok-try_root.ensures.found;
      rooted = λ n below storage.
          elim (cases_lt n node) [
            | inl before ↦ finds.kept n (c.loop-node.invariant.rooted n before storage)
            | inr last ↦
                let same : node ≡ n = omega arith in
                finds.rooted n (Contains-cons_first node [] n same) storage
          ];
    }

pub returns : goal.returns
returns g c = record {
  found = c.loop-node.invariant.found;
  rooted = λ n below storage. c.loop-node.invariant.rooted n (omega arith) storage;
}
