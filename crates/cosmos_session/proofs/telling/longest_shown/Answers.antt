use Rattle.std.proofs.Common.{ℕ, List, length, arith, rules}
use Rattle.std.proofs.lemmas.List.{take_all}
use Rattle.session_meaning.proofs.LineLemmas.{longest-next}
use Rattle.cosmos_session.proofs.telling.longest_shown.Goals as goal

pub loop-name-preserved : goal.loop-name-preserved
loop-name-preserved c = record {
  longest = longest-next (λ (name : List ℕ). length name) c.args.names.now c.loop-name.name-index c.name-item.result c.loop-name.most _ (omega arith) c.name-item.is
      (search rules) (search rules) c.loop-name.invariant.longest;
  few = search rules;
}

pub returns-clause-longest : goal.returns-clause-longest
returns-clause-longest c = rw (take_all c.loop-name.name-index c.args.names.now (omega arith)) at c.loop-name.invariant.longest
