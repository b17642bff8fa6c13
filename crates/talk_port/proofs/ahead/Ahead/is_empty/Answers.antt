-- The places meet where nothing stands between them.
use Rattle.talk_port.proofs.LineTalkLemmas.{none_ready_test}
use Rattle.talk_port.proofs.ahead.Ahead.is_empty.Goals as goal

pub returns : goal.returns
returns g c =
    let i = c.self.inside in
    rw (← c.self.view_is) (none_ready_test i.at i.end i.bytes.items c.self.invariant.0 c.self.invariant.1)
