-- The changes outside the span are passed: their nodes agree, and no part that was apart reads them.
use Rattle.run_beside.proofs.NoticingLemmas.{NoticesGood-within, Contains-within}
use Rattle.run_beside.proofs.noticing.notice_near.Goals as goal

pub notice_those-requires-clause-inside : goal.notice_those-requires-clause-inside
notice_those-requires-clause-inside c change there =
    c.requires.inside change (Contains-within c.args.changes.now c.args.near.now c.args.span c.requires.span change there)

pub notice_those-requires-clause-agrees : goal.notice_those-requires-clause-agrees
notice_those-requires-clause-agrees c change there =
    c.requires.agrees change (Contains-within c.args.changes.now c.args.near.now c.args.span c.requires.span change there)

pub notice_those-requires-clause-unread : goal.notice_those-requires-clause-unread
notice_those-requires-clause-unread c change there =
    c.requires.unread change (Contains-within c.args.changes.now c.args.near.now c.args.span c.requires.span change there)

pub returns-clause-notices : goal.returns-clause-notices
returns-clause-notices c =
    NoticesGood-within c.args.changes.now c.args.near.now c.args.span c.requires.span c.args.owners.now c.args.readers.now c.args.good.now c.args.bad.now
    c.args.apart.now.inside c.notice_those.new.apart.inside c.args.agenda.now.marks c.notice_those.new.agenda.marks c.requires.agrees c.requires.unread
    c.notice_those.ensures.notices
