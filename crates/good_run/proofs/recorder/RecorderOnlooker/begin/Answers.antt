-- The state is noted, if there is room.
use Rattle.std.proofs.Common.{true, ap, ◌∙◌}
use Rattle.good_run.specs.Recording.{RunData}
use Rattle.good_run.proofs.RecordLemmas.{lists_from_known, look_known}
use Rattle.good_run.proofs.recorder.RecorderOnlooker.begin.Goals as goal

pub note-requires : goal.note-requires
note-requires g c = let (old, knows, lists) = c.requires in lists_from_known c.args.self.now (g.M.Moved.changed c.args.moved.now) old (g.M.Moved.state c.args.moved.now) knows lists

pub returns-clause-knows : goal.returns-clause-knows
returns-clause-knows g c =
    ap (λ (run : RunData). run.known) c.note.ensures ∙ look_known true c.args.self.now (g.M.Moved.state c.args.moved.now)
