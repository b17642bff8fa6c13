use Rattle.std.proofs.Common.{ℕ, List, length, arith, rules}
use Rattle.std.proofs.lemmas.List.{take_all}
use Rattle.session_meaning.specs.Refusals.{nodes_named}
use Rattle.session_meaning.proofs.LineLemmas.{longest-next}
use Rattle.cosmos_session.proofs.telling.longest_list.Goals as goal

pub loop-name-preserved : goal.loop-name-preserved
loop-name-preserved c = record {
  short = longest-next (λ (name : List ℕ). length (nodes_named c.args.circuit.now c.args.vectors.now name)) c.args.names.now c.loop-name.name-index
      c.name-item.result c.loop-name.most _ (omega arith) c.name-item.is (search rules) (search rules) c.loop-name.invariant.short;
  few = search rules;
}

pub returns-clause-short : goal.returns-clause-short
returns-clause-short c = rw (take_all c.loop-name.name-index c.args.names.now (omega arith)) at c.loop-name.invariant.short
