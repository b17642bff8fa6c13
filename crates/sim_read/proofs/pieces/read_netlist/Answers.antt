-- A reader that is fed the whole text stands for it.
use Rattle.std.proofs.Common.{[]}
use Rattle.sim_read.specs.Standing.{StandsFor}
use Rattle.sim_read.proofs.StandingLemmas.{if_err, if_ok}
use Rattle.sim_read.proofs.pieces.read_netlist.Goals as goal

pub returns-clause-ok : goal.returns-clause-ok
returns-clause-ok c =
    let stands : StandsFor c.feed.new.self c.args.text.now = c.in_ok-feed.ensures.ok [] c.in_ok-reader.ensures in
    if_ok c.finish.result (λ circuit each. each c.args.text.now stands) c.finish.ensures.ok

pub returns-clause-refused : goal.returns-clause-refused
returns-clause-refused c =
    let stands : StandsFor c.feed.new.self c.args.text.now = c.in_ok-feed.ensures.ok [] c.in_ok-reader.ensures in
    if_err c.finish.result (λ fault each. each c.args.text.now stands) c.finish.ensures.refused

pub returns-clause-visible : goal.returns-clause-visible
returns-clause-visible c =
    let stands : StandsFor c.feed.new.self c.args.text.now = c.in_ok-feed.ensures.ok [] c.in_ok-reader.ensures in
    if_ok c.finish.result (λ circuit each. each c.args.text.now stands) c.finish.ensures.visible
