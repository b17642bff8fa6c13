-- The gate stands where the set says, in a pool that is in order.
use Rattle.std.proofs.Common.{subst, sym}
use Rattle.bool_pool.specs.Choice.{IsOver}
use Rattle.bool_pool.proofs.GateLemmas.{IsPlaced-inserted, AddsAt-inserted}
use Rattle.bool_pool.proofs.pool.Pool.put.Goals as goal
use Rattle.bool_pool.proofs.pool.Pool.put.Goals.{in-Ok, in-Err}

pub returns-clause-placed : goal.returns-clause-placed
returns-clause-placed c = elim c.match-insert_full.branch [
  | in-Ok w ↦ rw w.result-is
      (IsPlaced-inserted c.self.inside.gates.keys c.insert_full.new.self.keys c.args.gate w.in-Ok.place c.self.invariant
      (subst (λ gates. IsOver gates c.args.gate) (sym c.self.view_is) c.requires)
      w.in-Ok.ensures.keys w.in-Ok.ensures.within w.in-Ok.ensures.stored)
  | in-Err w ↦ rw w.result-is tt
]

pub returns-clause-added : goal.returns-clause-added
returns-clause-added c = elim c.match-insert_full.branch [
  | in-Ok w ↦ rw (w.result-is, ← c.self.view_is)
      (AddsAt-inserted c.self.inside.gates.keys c.insert_full.new.self.keys c.args.gate w.in-Ok.place w.in-Ok.ensures.keys
      w.in-Ok.ensures.index)
  | in-Err w ↦ rw w.result-is tt
]
