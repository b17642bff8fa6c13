-- By the session's circuit and stage.
use Rattle.session_meaning.proofs.LookLemmas.{nodes_known}
use Rattle.symbol_looking.proofs.StageLemmas.{nodes_inside}
use Rattle.symbol_looking.proofs.looking.look_all.Goals as goal

pub look_names-requires : goal.look_names-requires
look_names-requires g c =
    let session = c.args.session.now in
    record {
      states = rw (c.circuit.ensures.value, c.stage.ensures.value) (nodes_inside session c.stage.ensures.session);
      known = rw c.circuit.ensures.value (nodes_known session.core.circuit c.args.names.now c.requires);
    }

pub returns-clause-heard : goal.returns-clause-heard
returns-clause-heard g c = rw (c.circuit.ensures.value, c.stage.ensures.value) at c.look_names.ensures.heard
