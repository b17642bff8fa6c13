use Rattle.std.proofs.Common.{◌==◌, List, ap, sym, ◌∙◌}
use Rattle.std.specs.List.{list_any}
use Rattle.spice_read.specs.declared.open_call.OpenCall.{OpenCall}
use Rattle.spice_read.specs.Frames.{FrameData, scope_of}
use Rattle.spice_read.proofs.FrameLemmas.{any-expanding}
use Rattle.spice_read.proofs.frame.Frame.is_expanding.Goals as goal

pub returns : goal.returns
returns c =
    c.is_open.ensures
    ∙ ap (λ (calls : List OpenCall). list_any (λ (call : OpenCall). call.line == c.args.line) calls) c.deref.ensures.value
    ∙ sym (any-expanding c.self.inside.lookups c.self.inside.calls.items c.args.line)
    ∙ ap (λ (f : FrameData). list_any (λ one. one == c.args.line) (scope_of f).expanding) c.self.view_is
