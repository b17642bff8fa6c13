-- A turn more, the end, a line that quits, and where it breaks off.
use Rattle.std.proofs.Common.{◌≡◌, true, not, refl, subst, rules}
use Rattle.talk_port.specs.Talks.{Hears}
use Rattle.talk_port.specs.Conversing.{Answers}
use Rattle.talk_port.proofs.TalkLemmas.{so_far-none, so_far-more, so_far-over, so_far-quit, so_far-quit_broken, so_far-between, so_far-within, went_on, stopped, on_err, on_ok}
use Rattle.talk_port.proofs.conversing.converse.Given.{Over}
use Rattle.talk_port.proofs.conversing.converse.Goals.{In_ok-reply}
use Rattle.talk_port.proofs.conversing.converse.Goals as goal

-- a line was heard
heard : (g : Over) (c : In_ok-reply g) → Hears (g.T.Talk.talk c.loop.port) (g.T.Talk.talk c.ask.new.port) true c.ask.new.line.items
heard g c =
    subst (λ more. Hears (g.T.Talk.talk c.loop.port) (g.T.Talk.talk c.ask.new.port) more c.ask.new.line.items) c.if-not-branch.false c.in_ok-ask.ensures.heard

-- and answered
answered : (g : Over) (c : In_ok-reply g) → Answers g.S.Speaker.answers (g.S.Speaker.mind c.loop.speaker) c.ask.new.line.items
    (g.S.Speaker.mind c.reply.new.speaker) (g.T.Talk.talk c.ask.new.port) (g.T.Talk.talk c.reply.new.port)
answered g c =
    subst (λ bytes. Answers g.S.Speaker.answers (g.S.Speaker.mind c.loop.speaker) bytes (g.S.Speaker.mind c.reply.new.speaker)
    (g.T.Talk.talk c.ask.new.port) (g.T.Talk.talk c.reply.new.port)) c.deref.ensures.value c.in_ok-reply.ensures.answers

-- and the talk goes on unless it quits
goes_on : (g : Over) (c : In_ok-reply g) → c.in_ok-reply.field-0 ≡ not (g.S.Speaker.quits c.ask.new.line.items)
goes_on g c = subst (λ bytes. c.in_ok-reply.field-0 ≡ not (g.S.Speaker.quits bytes)) c.deref.ensures.value c.in_ok-reply.ensures.goes_on

pub loop-init : goal.loop-init
loop-init g c = record {
  so_far = so_far-none g.S.Speaker.answers g.S.Speaker.quits (g.S.Speaker.mind c.args.speaker.now) (g.T.Talk.talk c.args.port.now);
  unheard = refl;
  faults = refl;
}

pub returns-in_err-ask-clause-err : goal.returns-in_err-ask-clause-err
returns-in_err-ask-clause-err g c =
    let broke = so_far-between g.S.Speaker.answers g.S.Speaker.quits (g.S.Speaker.mind c.args.speaker.now) (g.T.Talk.talk c.args.port.now) g.S.Speaker.part
    c.loop.counter (g.S.Speaker.mind c.loop.speaker) (g.T.Talk.talk c.loop.port) (g.T.Talk.talk c.ask.new.port) c.loop.invariant.so_far
    c.in_err-ask.ensures.err in
    on_err c.from_residual.result broke

pub returns-then-not-branch-clause-ok : goal.returns-then-not-branch-clause-ok
returns-then-not-branch-clause-ok g c =
    let heard = subst (λ more. Hears (g.T.Talk.talk c.loop.port) (g.T.Talk.talk c.ask.new.port) more c.ask.new.line.items)
    c.if-not-branch.true c.in_ok-ask.ensures.heard in
    so_far-over g.S.Speaker.answers g.S.Speaker.quits (g.S.Speaker.mind c.args.speaker.now) (g.T.Talk.talk c.args.port.now)
    c.loop.counter (g.S.Speaker.mind c.loop.speaker) c.ask.new.line.items (g.T.Talk.talk c.loop.port) (g.T.Talk.talk c.ask.new.port)
    c.loop.invariant.so_far heard

pub returns-in_err-reply-clause-err : goal.returns-in_err-reply-clause-err
returns-in_err-reply-clause-err g c =
    let heard = subst (λ more. Hears (g.T.Talk.talk c.loop.port) (g.T.Talk.talk c.ask.new.port) more c.ask.new.line.items)
    c.if-not-branch.false c.in_ok-ask.ensures.heard in
    let part = subst (λ bytes. g.S.Speaker.part (g.S.Speaker.mind c.loop.speaker) bytes (g.S.Speaker.mind c.reply.new.speaker)
    (g.T.Talk.talk c.ask.new.port) (g.T.Talk.talk c.reply.new.port)) c.deref.ensures.value c.in_err-reply.ensures.part in
    let broke = so_far-within g.S.Speaker.answers g.S.Speaker.quits (g.S.Speaker.mind c.args.speaker.now) (g.T.Talk.talk c.args.port.now) g.S.Speaker.part
    c.loop.counter (g.S.Speaker.mind c.loop.speaker) (g.S.Speaker.mind c.reply.new.speaker) c.ask.new.line.items
    (g.T.Talk.talk c.loop.port) (g.T.Talk.talk c.ask.new.port) (g.T.Talk.talk c.reply.new.port) c.loop.invariant.so_far heard part in
    on_err c.from_residual-in_err-reply.result broke

pub returns-then-not-branch-2-clause-ok : goal.returns-then-not-branch-2-clause-ok
returns-then-not-branch-2-clause-ok g c =
    let reply = (goal.at.returns-then-not-branch-2-clause-ok g c).In_ok-reply in
    let quit = so_far-quit g.S.Speaker.answers g.S.Speaker.quits (g.S.Speaker.mind c.args.speaker.now) (g.T.Talk.talk c.args.port.now)
    c.loop.counter (g.S.Speaker.mind c.loop.speaker) (g.S.Speaker.mind c.reply.new.speaker) c.ask.new.line.items (g.T.Talk.talk c.loop.port)
    (g.T.Talk.talk c.ask.new.port) (g.T.Talk.talk c.reply.new.port) c.loop.invariant.so_far (heard g reply) (answered g reply)
    (stopped c.in_ok-reply.field-0 _ (goes_on g reply) c.if-not-branch-2.true) in
    on_ok c.hand_on.result (rw c.hand_on.ensures.talk quit)

pub returns-then-not-branch-2-clause-err : goal.returns-then-not-branch-2-clause-err
returns-then-not-branch-2-clause-err g c =
    let reply = (goal.at.returns-then-not-branch-2-clause-err g c).In_ok-reply in
    let broke = so_far-quit_broken g.S.Speaker.answers g.S.Speaker.quits (g.S.Speaker.mind c.args.speaker.now) (g.T.Talk.talk c.args.port.now)
    g.S.Speaker.part c.loop.counter (g.S.Speaker.mind c.loop.speaker) (g.S.Speaker.mind c.reply.new.speaker) c.ask.new.line.items
    (g.T.Talk.talk c.loop.port) (g.T.Talk.talk c.ask.new.port) (g.T.Talk.talk c.reply.new.port) c.loop.invariant.so_far (heard g reply) (answered g reply) in
    on_err c.hand_on.result (rw c.hand_on.ensures.talk broke)

pub returns-clause-err : goal.returns-clause-err
returns-clause-err g c =
    on_err c.hand_on-2.result
    (so_far-between g.S.Speaker.answers g.S.Speaker.quits (g.S.Speaker.mind c.args.speaker.now) (g.T.Talk.talk c.args.port.now) g.S.Speaker.part
    c.loop.counter (g.S.Speaker.mind c.loop.speaker) (g.T.Talk.talk c.loop.port) (g.T.Talk.talk c.hand_on-2.new.port) c.loop.invariant.so_far
    c.hand_on-2.ensures.talk)

pub loop-preserved : goal.loop-preserved
loop-preserved g c =
    let reply = (goal.at.loop-preserved g c).In_ok-reply in
    record {
      so_far = so_far-more g.S.Speaker.answers g.S.Speaker.quits (g.S.Speaker.mind c.args.speaker.now) (g.T.Talk.talk c.args.port.now)
          c.loop.counter (g.S.Speaker.mind c.loop.speaker) (g.S.Speaker.mind c.reply.new.speaker) c.ask.new.line.items (g.T.Talk.talk c.loop.port) (g.T.Talk.talk c.ask.new.port)
          (g.T.Talk.talk c.reply.new.port) c.loop.invariant.so_far (heard g reply) (answered g reply) (went_on c.in_ok-reply.field-0 _ (goes_on g reply) c.if-not-branch-2.false);
      unheard = search rules;
      faults = search rules;
    }
