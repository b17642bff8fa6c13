-- One more node is an input node; each is an edit.
use Rattle.std.proofs.Common.{◌≡◌, ◌<◌, ◌+◌, ◌∷◌, [], ℕ, List, drop, get_or, length, sym, ap, subst, ◌∙◌}
use Rattle.std.proofs.lemmas.List.{drop_more}
use Rattle.netlist.specs.Circuits.{CircuitData}
use Rattle.netlist.specs.Edits.{with_input}
use Rattle.switch_paths.specs.Graphs.{nodes}
use Rattle.column_stage.proofs.LeadingLemmas.{leads_by_both}
use Rattle.session_meaning.specs.Effects.{with_inputs}
use Rattle.session_meaning.specs.Sessions.{SessionData}
use Rattle.session_meaning.specs.Stages.{IsEditing}
use Rattle.session_meaning.proofs.EditLemmas.{nodes-with_inputs}
use Rattle.cosmos_session.proofs.session.Session.make_inputs.Goals as goal

pub loop-node-preserved : goal.loop-node-preserved
loop-node-preserved g c =
    let list = c.args.list.now in
    let k = c.loop-node.node-index in
    let node : ℕ = get_or list k 0 in
    let inside : k < length list = c.loop-node-test.true in
    let start = c.args.self.now in
    let now = c.loop-node.self in
    let new = c.make_input.new.self in
    let done : new.core ≡ record now.core { circuit = with_input now.core.circuit node } = c.make_input.ensures.made in
    let is : new.core.circuit ≡ with_input now.core.circuit node = ap (λ (s : SessionData). s.circuit) done in
    let made : with_inputs new.core.circuit (drop (k + 1) list) ≡ with_inputs start.core.circuit list =
    ap (λ (circuit : CircuitData). with_inputs circuit (drop (k + 1) list)) is
    ∙ ap (λ (left : List ℕ). with_inputs now.core.circuit left) (sym (drop_more list k 0 inside)) ∙ c.loop-node.invariant.made in
    let count : nodes new.core.circuit.graph ≡ nodes start.core.circuit.graph =
    ap (λ (circuit : CircuitData). nodes circuit.graph) is ∙ nodes-with_inputs (node ∷ []) now.core.circuit ∙ c.loop-node.invariant.count in
    let same : new.core ≡ record start.core { circuit = new.core.circuit } =
    subst (λ (s : SessionData). s ≡ record start.core { circuit = s.circuit }) (sym done)
    (ap (λ (s : SessionData). record s { circuit = with_input now.core.circuit node }) c.loop-node.invariant.same) in
    record {
      made = made;
      count = count;
      same = same;
      stage = leads_by_both g.M.Columns.did IsEditing start.stage now.stage new.stage c.loop-node.invariant.stage c.make_input.ensures.stage;
    }
