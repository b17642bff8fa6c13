-- The line is said, or a part of it.
use Rattle.std.proofs.Common.{◌∙◌}
use Rattle.talk_run.proofs.SpokenLemmas.{says_tries}
use Rattle.talk_run.proofs.reasons.echo.Goals as goal

pub returns-in-Ok-clause-said : goal.returns-in-Ok-clause-said
returns-in-Ok-clause-said g c =
    says_tries c.deref.result.now _ c.args.out.now.spoken.talk c.say.new.self.spoken.talk c.say.result (c.deref.ensures.value ∙ c.in-Ok.ensures)
    c.say.ensures.ok c.say.ensures.part
