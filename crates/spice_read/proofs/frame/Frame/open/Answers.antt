use Rattle.std.proofs.Common.{List, ℕ, [], ◌∷◌, ◌++◌, refl, ap, ◌∙◌}
use Rattle.spice_read.specs.declared.open_call.OpenCall.{OpenCall}
use Rattle.spice_read.proofs.FrameLemmas.{opened-scope}
use Rattle.spice_read.proofs.frame.Frame.open.Goals as goal

pub returns-clause-scope : goal.returns-clause-scope
returns-clause-scope c =
    let call : OpenCall = record { name = c.at.result; line = c.args.line; ports = c.in_ok-ports.ports } in
    opened-scope c.self.inside.lookups c.self.inside.calls.items c.push_reserved.new.self.items call c.args.self.now c.args.words.now c.args.line
    c.args.ports c.self.view_is
    (c.push_reserved.ensures.items ∙ ap (λ (calls : List OpenCall). calls ++ call ∷ []) c.in_ok-reserve.ensures.items) c.at.ensures refl
    (c.in_ok-ports.ensures ∙ ap (λ (words : List (List ℕ)). record { ports = c.args.ports; words = words }) c.nodes_of.ensures)
