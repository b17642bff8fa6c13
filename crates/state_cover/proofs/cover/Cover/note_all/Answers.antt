-- New notes of nothing make no difference to what is noted.
use Rattle.std.proofs.Common.{◌∙◌, ap, arith}
use Rattle.state_cover.specs.Cover.{had_after}
use Rattle.state_cover.proofs.CoverLemmas.{had_after-padded}
use Rattle.state_cover.proofs.cover.Cover.note_all.Goals as goal

pub returns-clause-had : goal.returns-clause-had
returns-clause-had c =
    c.note_states.ensures.had
    ∙ (ap (λ hads. had_after hads c.args.states.now) c.in_ok-make_room.ensures.ok
    ∙ had_after-padded c.args.self.now _ c.args.states.now (omega (arith, c.requires)))
