-- A talk that broke off from the data that a session has at its start did so in the session's circuit.
use Rattle.std.proofs.Common.{◌≡◌, List, Option, inr, subst}
use Rattle.netlist.specs.Circuits.{CircuitData}
use Rattle.group_text.specs.Texts.{GroupTextData}
use Rattle.talk_port.specs.Talks.{TalkData}
use Rattle.talk_port.specs.Conversing.{BreaksOff}
use Rattle.session_meaning.specs.Sessions.{SessionData, start_of}
use Rattle.talk_run.specs.Asking.{quits}
use Rattle.talk_run.specs.Answers.{TalkMind, mind_of, IsAnswer, BreaksAnswer}
use Rattle.talk_run.specs.Talking.{IsBroken}

pub broken : (circuit : CircuitData) (core : SessionData) (asked : List GroupTextData) (new : TalkMind) (before after : Option TalkData) →
    core ≡ start_of circuit → BreaksOff IsAnswer quits BreaksAnswer (mind_of core 0 asked) new before after → IsBroken circuit asked before after
broken circuit core asked new before after starts breaks =
    inr (new, subst (λ (one : SessionData). BreaksOff IsAnswer quits BreaksAnswer (mind_of one 0 asked) new before after) starts breaks)
