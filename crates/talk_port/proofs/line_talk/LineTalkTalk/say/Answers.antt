-- A part more was said, or none.
use Rattle.std.proofs.Common.{rules, ◌∙◌}
use Rattle.talk_port.proofs.TalkLemmas.{on_err}
use Rattle.talk_port.proofs.LineTalkLemmas.{said_more, said_prefix}
use Rattle.talk_port.proofs.line_talk.LineTalkTalk.say.Goals as goal

pub returns-in_err-at-clause-says_part : goal.returns-in_err-at-clause-says_part
returns-in_err-at-clause-says_part g c = on_err c.from_residual.result
    (said_prefix c.args.self.now.contents c.loop-at.self.contents c.say_next.new.self.contents c.loop-at.at c.args.piece.now c.loop-at.invariant.said
    c.in_err-at.ensures.err)

pub loop-at-preserved : goal.loop-at-preserved
loop-at-preserved g c = record {
  inside = c.in_ok-at.ensures.bound;
  said = said_more c.args.self.now.contents c.loop-at.self.contents c.say_next.new.self.contents c.loop-at.at c.in_ok-at.field-0 c.args.piece.now
      c.loop-at.invariant.said c.in_ok-at.ensures.said;
  left = c.say_next.ensures.left ∙ c.loop-at.invariant.left;
  unheard = c.say_next.ensures.hearing ∙ c.loop-at.invariant.unheard;
  faults = search rules;
  refusals = search rules;
}
