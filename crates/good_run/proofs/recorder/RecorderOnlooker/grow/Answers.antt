-- A state of as many nodes is the one that is known; one with new nodes is left out.
use Rattle.std.proofs.Common.{false, sym, ap, subst, ◌∙◌}
use Rattle.std.proofs.lemmas.Bool.{OnTrue_at, OnFalse_at}
use Rattle.settling.specs.Moved.{IsGrown}
use Rattle.good_run.specs.Recording.{RunData}
use Rattle.good_run.proofs.RecordLemmas.{look_known, look_lost, no_room_counted}
use Rattle.good_run.proofs.GrowingLemmas.{grown_same, nothing_listed}
use Rattle.good_run.proofs.recorder.RecorderOnlooker.grow.Goals as goal

pub note-requires : goal.note-requires
note-requires c =
    let (old, knows, grown) = c.requires in
    let counted = OnTrue_at c.if-has_nodes.true c.has_nodes.ensures.yes ∙ c.known_nodes.ensures in
    nothing_listed c.args.self.now.known c.args.state.now
    (grown_same c.args.self.now.known c.args.state.now (subst (λ states. IsGrown states c.args.state.now) (sym knows) grown) counted)

pub returns-then-has_nodes-clause-seen : goal.returns-then-has_nodes-clause-seen
returns-then-has_nodes-clause-seen c = c.note.ensures

pub returns-then-has_nodes-clause-knows : goal.returns-then-has_nodes-clause-knows
returns-then-has_nodes-clause-knows c = ap (λ (run : RunData). run.known) c.note.ensures ∙ look_known false c.args.self.now c.args.state.now

pub returns-clause-seen : goal.returns-clause-seen
returns-clause-seen c =
    let differs = OnFalse_at c.if-has_nodes.false c.has_nodes.ensures.no in
    c.in_ok-leave_out.ensures.ok
    ∙ sym (look_lost false c.args.self.now c.args.state.now
    (no_room_counted c.args.self.now c.args.state.now (λ same. differs (same ∙ sym c.known_nodes.ensures))))

pub returns-clause-knows : goal.returns-clause-knows
returns-clause-knows c = ap (λ (run : RunData). run.known) c.in_ok-leave_out.ensures.ok
