-- A node differs, or agrees.
use Rattle.std.proofs.Common.{inr, subst}
use Rattle.std.specs.Prelude.{Contains}
use Rattle.std.proofs.lemmas.Bool.{OnTrue_at, OnFalse_at}
use Rattle.run_beside.proofs.NoticingLemmas.{NoticesGood-differing, NoticesGood-agreeing}
use Rattle.run_beside.proofs.noticing.notice_good.Goals as goal

pub wake_all-requires-clause-parts : goal.wake_all-requires-clause-parts
wake_all-requires-clause-parts c = λ k there. c.requires.parts k (inr (subst (λ xs. Contains xs k) c.of.ensures there))

pub returns-then-differ_at-clause-notices : goal.returns-then-differ_at-clause-notices
returns-then-differ_at-clause-notices c =
    NoticesGood-differing c.args.owners.now c.args.readers.now c.args.good.now c.args.bad.now c.args.node _ _ _ _
    (OnTrue_at c.if-differ_at.true c.differ_at.ensures.differs) c.enter_concerned.ensures.notices

pub returns-else-differ_at-clause-notices : goal.returns-else-differ_at-clause-notices
returns-else-differ_at-clause-notices c =
    NoticesGood-agreeing c.args.owners.now c.args.readers.now c.args.good.now c.args.bad.now c.args.node c.of.result.now _ _ _
    (OnFalse_at c.if-differ_at.false c.differ_at.ensures.same) c.of.ensures c.wake_all.ensures.notices
