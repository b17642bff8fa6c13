use Rattle.std.proofs.Common.{◌≡◌, drop}
use Rattle.session_meaning.specs.Refusals.{first_refusal, rail_at}
use Rattle.cosmos_session.proofs.refusals.rail_among.Given as goal

abbrev pub invariant-loop-node : goal.invariant-loop-node
invariant-loop-node l = first_refusal rail_at (drop l.node-index l.list) ≡ first_refusal rail_at l.list
