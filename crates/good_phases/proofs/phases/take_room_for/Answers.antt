-- What was noted stays.
use Rattle.std.proofs.Common.{◌∙◌}
use Rattle.good_phases.proofs.phases.take_room_for.Goals as goal

pub returns : goal.returns
returns c =
    let one = c.reserve_states-states.ensures in
    let two = c.reserve_changes-changes.ensures in
    record { start = two.start ∙ one.start; known = two.known ∙ one.known; shown = two.shown ∙ one.shown; whole = two.whole ∙ one.whole }
