-- There is a note of each node then.
use Rattle.std.proofs.Common.{◌∙◌}
use Rattle.state_cover.proofs.CoverLemmas.{grown_after}
use Rattle.state_cover.proofs.cover.CoverOnlooker.grow.Goals as goal

pub returns-clause-seen : goal.returns-clause-seen
returns-clause-seen c = c.in_ok-make_room.ensures.ok ∙ grown_after c.args.self.now c.requires.0 c.args.state.now c.requires.1 c.requires.2
