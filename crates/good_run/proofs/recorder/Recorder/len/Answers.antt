-- As many looks as noted states.
use Rattle.std.proofs.Common.{sym, ◌∙◌}
use Rattle.std.proofs.lemmas.List.{length-map}
use Rattle.good_run.specs.Looks.{shown_at}
use Rattle.good_run.proofs.recorder.Recorder.len.Goals as goal

pub returns : goal.returns
returns c =
    let i = c.self.inside in
    rw (← c.self.view_is) (c.len.ensures ∙ (i.looks.ok.0 ∙ sym (length-map i.looks.items (shown_at i.start.items i.changes.items))))
