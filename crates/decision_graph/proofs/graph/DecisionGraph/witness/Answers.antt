-- Before the function's first variable all are false, and from there on the walk has it.
use Rattle.std.proofs.Common.{◌≡◌, ◌++◌, length, take, drop, sym, ◌∙◌, inl, inr, true≢false, arith}
use Rattle.std.proofs.lemmas.List.{take_at}
use Rattle.std.proofs.lemmas.Bool.{cases_lt}
use Rattle.decision_graph.specs.Vertices.{level_at}
use Rattle.decision_graph.proofs.graph.DecisionGraph.witness.Goals as goal

pub returns-clause-first : goal.returns-clause-first
returns-clause-first c =
    let vars = c.walk.new.vars in
    let same : take c.in_ok-vars.vars.len (vars ++ drop (length vars) c.in_ok-vars.vars.items) ≡ vars =
    take_at vars (drop (length vars) c.in_ok-vars.vars.items) c.in_ok-vars.vars.len (omega arith) in
    rw same (λ g v holds before from set. elim (cases_lt v (level_at c.args.self.now.variables c.args.self.now.vertices c.args.function.place)) [
      | inl below ↦ absurd (true≢false (sym set ∙ c.walk.ensures.before v below ∙ rw c.deref_mut.ensures.value (c.in_ok-vars.ensures.unset v)))
      | inr above ↦ c.walk.ensures.first g v holds before above set
    ])
