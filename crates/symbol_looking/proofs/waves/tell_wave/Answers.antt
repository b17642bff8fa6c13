-- The line of the watched nodes of the session's stage.
use Rattle.symbol_looking.proofs.MergingLemmas.{session_wave}
use Rattle.symbol_looking.proofs.StageLemmas.{all_inside}
use Rattle.symbol_looking.proofs.waves.tell_wave.Goals as goal

pub tell_nodes-requires : goal.tell_nodes-requires
tell_nodes-requires g c =
    rw (c.stage.ensures.value, c.watched.ensures)
    (all_inside c.args.session.now c.stage.ensures.session c.args.session.now.core.watched c.stage.ensures.session.core.watched)

pub returns-clause-heard : goal.returns-clause-heard
returns-clause-heard g c = rw (c.stage.ensures.value, c.watched.ensures, c.requires.number) at c.tell_nodes.ensures.heard

pub returns-clause-merged : goal.returns-clause-merged
returns-clause-merged g c = λ count counted. session_wave c.args.session.now count c.args.told counted

pub returns-clause-rails : goal.returns-clause-rails
returns-clause-rails g c = rw (c.stage.ensures.value, c.watched.ensures) at c.tell_nodes.ensures.rails
