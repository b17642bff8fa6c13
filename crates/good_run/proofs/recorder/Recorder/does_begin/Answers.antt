-- What the look says, the noted state says.
use Rattle.std.proofs.Common.{false, length, sym, ap, ◌∙◌}
use Rattle.std.specs.Prelude.{map, slice_index_or}
use Rattle.good_run.specs.declared.look.Look.{Look}
use Rattle.good_run.specs.Recording.{RunData}
use Rattle.good_run.proofs.LookLemmas.{shown_look, begins_same}
use Rattle.good_run.proofs.recorder.Recorder.does_begin.Goals as goal

pub begins_of-requires : goal.begins_of-requires
begins_of-requires c =
    let i = c.self.inside in
    shown_look i.start.items i.changes.items i.looks.items _ c.args.at _ c.requires (ap (λ (run : RunData). length run.shown) c.self.view_is) c.deref.ensures.value

pub returns : goal.returns
returns c =
    let i = c.self.inside in
    rw (← c.self.view_is)
    (c.begins_of.ensures ∙ (ap (λ looks. slice_index_or (map (λ (look : Look). look.begins) looks) c.args.at false) c.deref.ensures.value
    ∙ ap (λ list. slice_index_or list c.args.at false) (sym (begins_same i.start.items i.changes.items i.looks.items))))
