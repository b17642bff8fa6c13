-- It was said; if it could not be handed on, it was said in part at least.
use Rattle.cosmos_app.proofs.TalkLemmas.{said_whole}
use Rattle.cosmos_app.proofs.talking.say_whole.Goals as goal

pub returns-in-Ok-clause-said : goal.returns-in-Ok-clause-said
returns-in-Ok-clause-said g c =
    said_whole c.args.text.now c.args.out.now.spoken.talk c.say.new.self.spoken.talk c.hand_on.new.self.spoken.talk c.hand_on.result
    c.hand_on.ensures.talk c.in-Ok.ensures.ok
