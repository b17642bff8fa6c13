-- The stage has both rails of each node of the session.
use Rattle.symbol_session.proofs.keeping.session_rails.Goals as goal

pub all_rails-requires : goal.all_rails-requires
all_rails-requires c = rw c.stage-stage.ensures.value c.nodes_of-nodes.ensures.has

pub returns : goal.returns
returns c = rw (c.stage-stage.ensures.value, c.nodes_of-nodes.ensures.nodes) at c.all_rails.ensures
