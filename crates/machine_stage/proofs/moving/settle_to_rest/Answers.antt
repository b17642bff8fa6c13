use Rattle.machine_stage.proofs.RestLemmas.{settled_rests}
use Rattle.machine_stage.proofs.moving.settle_to_rest.Goals as goal

pub rest_uncounted-requires-clause-steady : goal.rest_uncounted-requires-clause-steady
rest_uncounted-requires-clause-steady g c =
    let settled = c.settle_uncounted-settled in
    settled_rests c.args.graph.now c.args.machine.now.state c.args.limit settled.new.machine.state settled.result.steps settled.result.joined
    settled.ensures.settles c.if-is_at_rest.ensures.rest.0 c.if-is_at_rest.ensures.rest.1
