-- What a line asks for is answered by the function that does it.
use Rattle.std.proofs.Common.{◌∷◌, refl, ap}
use Rattle.talk_run.specs.Asking.{asked_seen}
use Rattle.talk_run.proofs.AnswerLemmas.{replies_script, replies_why, replies_echo, replies_refused, replies_quit}
use Rattle.talk_run.proofs.speaking.Obeying.reply.Goals as goal

pub returns-in-OfScript-clause-said : goal.returns-in-OfScript-clause-said
returns-in-OfScript-clause-said g c =
    replies_script (asked_seen c.args.asked) _ _ c.args.bytes.now c.args.port.now.spoken.talk c.obey.new.out.spoken.talk c.obey.result
    (ap asked_seen c.in-OfScript.is) c.obey.ensures.said

pub returns-in-Why-clause-said : goal.returns-in-Why-clause-said
returns-in-Why-clause-said g c =
    replies_why (asked_seen c.args.asked) _ _ c.args.bytes.now c.args.port.now.spoken.talk c.explain.new.out.spoken.talk c.explain.result
    c.in-Why.name.now (ap asked_seen c.in-Why.is) refl (c.explain.ensures.said (g.A.Analyst.analysed c.args.self.now.analyst))

pub returns-in-Echo-clause-said : goal.returns-in-Echo-clause-said
returns-in-Echo-clause-said g c =
    replies_echo (asked_seen c.args.asked) _ _ c.args.bytes.now c.args.port.now.spoken.talk c.echo.new.out.spoken.talk c.echo.result
    (c.in-Echo.first.now ∷ c.in-Echo.words) (ap asked_seen c.in-Echo.is) refl c.echo.ensures.said

pub returns-in-Quit-clause-said : goal.returns-in-Quit-clause-said
returns-in-Quit-clause-said g c =
    replies_quit (asked_seen c.args.asked) _ _ c.args.bytes.now c.args.port.now.spoken.talk c.args.port.now.spoken.talk (ap asked_seen c.in-Quit.is) refl refl

pub returns-in-Refused-clause-said : goal.returns-in-Refused-clause-said
returns-in-Refused-clause-said g c =
    replies_refused (asked_seen c.args.asked) _ _ c.args.bytes.now c.args.port.now.spoken.talk c.refuse.new.out.spoken.talk c.refuse.result
    c.in-Refused.code (ap asked_seen c.in-Refused.is) refl c.refuse.ensures.said
