-- What the line asks for is answered, with one line more heard.
use Rattle.std.proofs.Common.{refl}
use Rattle.talk_run.specs.Asking.{asked_seen}
use Rattle.talk_run.proofs.AnswerLemmas.{answers_heard, breaks_heard, goes_on}
use Rattle.talk_run.proofs.speaking.ObeyingSpeakerTeller.answer.Goals as goal

pub returns-in-Ok-clause-answers : goal.returns-in-Ok-clause-answers
returns-in-Ok-clause-answers g c =
    answers_heard c.args.self.now.session.core (g.A.Analyst.analysed c.args.self.now.analyst) c.args.self.now.heard _ c.args.line.now
    c.without_return-bytes.result.now (asked_seen c.asked_of-asked.result) c.args.port.now.spoken.talk c.reply.new.port.spoken.talk
    c.asked_of-asked.ensures c.without_return-bytes.ensures c.next_number-self.ensures _ c.in-Ok.ensures.said

pub returns-in-Ok-clause-goes_on : goal.returns-in-Ok-clause-goes_on
returns-in-Ok-clause-goes_on g c =
    goes_on c.args.line.now c.without_return-bytes.result.now (asked_seen c.asked_of-asked.result) c.is_quit-more.result _ c.asked_of-asked.ensures
    c.without_return-bytes.ensures c.is_quit-more.ensures refl

pub returns-in-Err-clause-part : goal.returns-in-Err-clause-part
returns-in-Err-clause-part g c =
    breaks_heard c.args.self.now.session.core (g.A.Analyst.analysed c.args.self.now.analyst) c.args.self.now.heard _ c.args.line.now
    c.without_return-bytes.result.now (asked_seen c.asked_of-asked.result) c.args.port.now.spoken.talk c.reply.new.port.spoken.talk
    c.asked_of-asked.ensures c.without_return-bytes.ensures c.next_number-self.ensures c.in-Err.ensures.said
