-- The stage serves the session's circuit, so the groups that it has at hand are those of its graph.
use Rattle.std.proofs.lemmas.Option.{IfSome_then}
use Rattle.script_reports.proofs.reasons.kept_groups.Goals as goal

pub grouping-requires : goal.grouping-requires
grouping-requires g c =
    (c.args.session.now.core.kept, rw (c.stage.ensures.value, c.graph-graph.ensures.value, c.circuit.ensures.value) c.stage.ensures.session.served)

pub returns : goal.returns
returns g c =
    IfSome_then c.grouping.result (rw (c.graph-graph.ensures.value, c.circuit.ensures.value) at c.grouping.ensures) (λ groups are. (are.are, are.nodes))
