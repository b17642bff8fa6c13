-- A node with a distance was found.
use Rattle.std.proofs.Common.{sym, ◌∙◌}
use Rattle.circuit_lint.proofs.distances.is_fresh.Goals as goal

pub returns-in-Some-clause-found : goal.returns-in-Some-clause-found
returns-in-Some-clause-found c same storage = (c.in-Some.field-0, sym c.distance_of.ensures ∙ c.in-Some.is)
