-- A node whose flag is unset is passed.
use Rattle.std.proofs.lemmas.Bool.{OnTrue_at}
use Rattle.run_beside.proofs.NoticingLemmas.{Notices-marked}
use Rattle.run_beside.proofs.noticing.notice_unless_far.Goals as goal

pub returns-then-is_out-clause-notices : goal.returns-then-is_out-clause-notices
returns-then-is_out-clause-notices c =
    let far = OnTrue_at c.if-is_out.true c.is_out.ensures.yes in
    Notices-marked c.args.owners.now c.args.readers.now c.args.good.now c.args.bad.now c.args.node c.args.apart.now.inside c.args.agenda.now.marks
    (c.requires.agrees far) (c.requires.marked far)
