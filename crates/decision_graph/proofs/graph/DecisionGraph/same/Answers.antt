-- Functions that agree have one place in a reduced graph.
use Rattle.std.proofs.Common.{◌≡◌, ◌↔◌, ℕ, Bool, nat_eq, IsTrue, ap, rules}
use Rattle.decision_graph.specs.Meaning.{holds}
use Rattle.decision_graph.proofs.AgreeLemmas.{place-same}
use Rattle.decision_graph.proofs.graph.DecisionGraph.same.Goals as goal

-- a test of two numbers
tested : (r : Bool) (a b : ℕ) → r ≡ nat_eq a b → IsTrue r ↔ (a ≡ b)
tested r a b e = search rules

pub returns-clause-agree : goal.returns-clause-agree
returns-clause-agree c =
    let both = tested c.eq.result c.args.a.place c.args.b.place c.eq.ensures in (
      λ yes vars. ap (holds c.args.self.now.vertices vars) (both.0 yes),
      λ agree. both.1 (place-same c.args.self.now.variables c.args.self.now.vertices c.args.a.place c.args.b.place c.size.ensures.reduced c.size.ensures.apart
          c.requires.first c.requires.second agree),
    )
