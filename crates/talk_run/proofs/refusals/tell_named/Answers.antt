-- The line is told, or a part of it.
use Rattle.talk_run.proofs.SpokenLemmas.{told_tries, told_unheard}
use Rattle.talk_run.proofs.refusals.tell_named.Goals as goal

pub returns-clause-said : goal.returns-clause-said
returns-clause-said g c =
    told_tries c.args.out.now.spoken c.reserve.new.self.spoken c.tell.new.self.spoken _ c.tell.result c.in-Ok.ensures.heard
    c.tell.ensures.ok c.tell.ensures.part

pub returns-clause-hearing : goal.returns-clause-hearing
returns-clause-hearing g c =
    told_unheard c.args.out.now.spoken c.reserve.new.self.spoken c.tell.new.self.spoken _ c.tell.result c.in-Ok.ensures.heard
    c.tell.ensures.ok c.tell.ensures.part
