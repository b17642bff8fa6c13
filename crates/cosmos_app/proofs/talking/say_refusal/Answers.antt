-- What was written to an empty sink is said.
use Rattle.std.proofs.Common.{ap}
use Rattle.ports.specs.HonestPorts.{HonestSinkData}
use Rattle.cosmos_app.specs.Named.{IsCircuitRefusal}
use Rattle.cosmos_app.proofs.TalkLemmas.{said_refusal}
use Rattle.cosmos_app.proofs.talking.say_refusal.Goals as goal

pub returns-in-Ok-clause-said : goal.returns-in-Ok-clause-said
returns-in-Ok-clause-said g c =
    said_refusal (IsCircuitRefusal c.args.refusal) c.new-sink.result.written c.refuse_circuit.new.out.written c.args.out.now.spoken.talk
    c.say_text.new.out.spoken.talk c.in-Ok.end c.say_text.result
    (ap (λ (sink : HonestSinkData). sink.written) c.new-sink.ensures) c.in-Ok.ensures.told c.say_text.ensures.said
