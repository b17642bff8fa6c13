-- A byte more of the line, its LF, and the end.
use Rattle.std.proofs.Common.{rules, ◌∙◌, subst}
use Rattle.talk_port.specs.LineTalks.{TakesByte}
use Rattle.talk_port.proofs.LineTalkLemmas.{heard_more, heard_fed, heard_end, hears_untold, none_came}
use Rattle.talk_port.proofs.line_talk.LineTalkTalk.hear.Goals as goal

pub returns-in_default-clause-line : goal.returns-in_default-clause-line
returns-in_default-clause-line g c =
    let none = none_came c.in_ok-byte.field-0 c.in_default.not-Some in
    let takes = subst (TakesByte c.loop.self.left c.take_byte.new.self.left) none c.in_ok-byte.ensures.taken in
    heard_end c.args.self.now.left c.loop.self.left c.take_byte.new.self.left c.loop.some c.loop.line.items takes c.loop.invariant.so_far

pub returns-in_default-clause-heard : goal.returns-in_default-clause-heard
returns-in_default-clause-heard g c =
    let none = none_came c.in_ok-byte.field-0 c.in_default.not-Some in
    let takes = subst (TakesByte c.loop.self.left c.take_byte.new.self.left) none c.in_ok-byte.ensures.taken in
    hears_untold c.args.self.now.left c.take_byte.new.self.left c.loop.some c.loop.line.items
    (heard_end c.args.self.now.left c.loop.self.left c.take_byte.new.self.left c.loop.some c.loop.line.items takes c.loop.invariant.so_far)

pub returns-then-byte-eq10-clause-line : goal.returns-then-byte-eq10-clause-line
returns-then-byte-eq10-clause-line g c =
    let takes = subst (TakesByte c.loop.self.left c.take_byte.new.self.left) c.in-Some.is c.in_ok-byte.ensures.taken in
    heard_fed c.args.self.now.left c.loop.self.left c.take_byte.new.self.left c.loop.some c.loop.line.items c.in-Some.byte c.if-byte-eq10.true takes
    c.loop.invariant.so_far

pub loop-preserved : goal.loop-preserved
loop-preserved g c =
    let takes = subst (TakesByte c.loop.self.left c.take_byte.new.self.left) c.in-Some.is c.in_ok-byte.ensures.taken in
    record {
      so_far = heard_more c.args.self.now.left c.loop.self.left c.take_byte.new.self.left c.loop.some c.loop.line.items c.keep.new.line.items c.in-Some.byte
          c.if-byte-eq10.false takes (search rules) c.loop.invariant.so_far;
      behind = c.take_byte.ensures.behind ∙ c.loop.invariant.behind;
      handed = c.take_byte.ensures.handed ∙ c.loop.invariant.handed;
      contents = c.take_byte.ensures.contents ∙ c.loop.invariant.contents;
      unheard = search rules;
      faults = c.take_byte.ensures.cause ∙ c.loop.invariant.faults;
      refusals = c.take_byte.ensures.memory ∙ c.loop.invariant.refusals;
    }
