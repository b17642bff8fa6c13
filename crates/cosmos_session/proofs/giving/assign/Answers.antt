use Rattle.std.proofs.Common.{◌≡◌, ◌<◌, ◌∷◌, [], ℕ, List, length, get_or, refl, sym, subst, ◌∙◌, arith}
use Rattle.std.specs.Prelude.{slice_set}
use Rattle.std.proofs.lemmas.List.{drop_all, get_or_default}
use Rattle.ternary.specs.declared.tern.Tern.{Tern}
use Rattle.ternary.specs.declared.tern.Tern.TheVariants.{Zero}
use Rattle.column_stage.specs.Acts.{Act, Leads, Placed}
use Rattle.column_stage.proofs.LeadingLemmas.{acts_next}
use Rattle.session_meaning.specs.Stages.{acts_of_states}
use Rattle.session_meaning.proofs.StateLemmas.{assigned-more}
use Rattle.cosmos_session.proofs.giving.assign.Goals as goal

pub loop-node-init : goal.loop-node-init
loop-node-init g c = record {
  one = c.requires.one;
  state = refl;
  sound = c.requires.sound;
  last = refl;
  serves = λ kept serving. serving;
  did = λ end rest. rest;
}

pub put_node-requires-clause-sound : goal.put_node-requires-clause-sound
put_node-requires-clause-sound g c = rw c.graph.ensures.value c.loop-node.invariant.sound

pub put_node-requires-clause-inside : goal.put_node-requires-clause-inside
put_node-requires-clause-inside g c = rw c.graph.ensures.value (c.requires.within c.loop-node.node-index (0, Zero) c.loop-node-test.true)

pub put_node-requires-clause-no_rail : goal.put_node-requires-clause-no_rail
put_node-requires-clause-no_rail g c = c.requires.past c.loop-node.node-index (0, Zero) c.loop-node-test.true

pub loop-node-preserved : goal.loop-node-preserved
loop-node-preserved g c =
    let graph = c.args.circuit.now.graph in
    let list = c.args.states.now in
    let place = c.loop-node.node-index in
    let pair : ℕ × Tern = get_or list place (0, Zero) in
    let inside : place < length list = c.loop-node-test.true in
    let is : pair ≡ get_or list place pair = get_or_default list place (0, Zero) pair inside in
    let now = g.M.Columns.states c.loop-node.stage 0 in
    let next = g.M.Columns.states c.put_node.new.stage 0 in
    let set : next ≡ slice_set now pair.0 pair.1 = c.put_node.ensures.state in
    let did : g.M.Columns.did (Placed graph pair.0 (pair.1 ∷ [])) c.loop-node.stage c.put_node.new.stage = rw c.graph.ensures.value at c.put_node.ensures.did in
    record {
      one = c.put_node.ensures.one;
      state = assigned-more list place pair now next inside is set ∙ c.loop-node.invariant.state;
      sound = rw c.graph.ensures.value at c.put_node.ensures.sound;
      last = c.put_node.ensures.last ∙ c.loop-node.invariant.last;
      serves = λ kept serving. (rw c.graph.ensures.value at c.put_node.ensures.serves) kept (c.loop-node.invariant.serves kept serving);
      did = λ end rest. c.loop-node.invariant.did end
          (subst (λ (acts : List Act). Leads g.M.Columns.did c.loop-node.stage acts end)
          (sym (acts_next (λ (one : ℕ × Tern). Placed graph one.0 (one.1 ∷ [])) list place pair inside is)) (c.put_node.new.stage, did, rest));
    }

pub returns-clause-did : goal.returns-clause-did
returns-clause-did g c =
    let graph = c.args.circuit.now.graph in
    c.loop-node.invariant.did c.loop-node.stage
    (subst (λ (left : List (ℕ × Tern)). Leads g.M.Columns.did c.loop-node.stage (acts_of_states graph left) c.loop-node.stage)
    (sym (drop_all c.loop-node.node-index c.args.states.now (omega arith))) refl)
