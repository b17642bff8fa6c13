-- The switch at a place is one alone.
use Rattle.std.proofs.Common.{◌≡◌}
use Rattle.channel_groups.proofs.flood.across.Goals as goal

pub returns-clause-all : goal.returns-clause-all
returns-clause-all c = λ other joined.
    let same : joined.switch ≡ c.in_ok-switch.switch = cc (c.in_ok-switch.ensures.value, joined.at_place) in
    c.other_end.ensures.all other (rw same at joined.joins)
