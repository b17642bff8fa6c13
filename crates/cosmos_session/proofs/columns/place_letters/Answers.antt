-- The node that was found is that of the name; a name's letters are one act.
use Rattle.std.proofs.Common.{◌≡◌, ℕ, ◌<◌, ◌≤◌, List, length, Option, Some, refl, ap, sym, subst, ◌∙◌, arith}
use Rattle.std.specs.Prelude.{unwrap_or}
use Rattle.std.proofs.lemmas.List.{drop_all}
use Rattle.ternary.specs.declared.tern.Tern.{Tern}
use Rattle.switch_paths.specs.declared.TheConstants.{RAILS}
use Rattle.switch_paths.specs.Graphs.{nodes}
use Rattle.netlist.specs.Names.{node_of}
use Rattle.netlist.specs.Circuits.{CircuitData}
use Rattle.netlist.specs.Edits.{node_named}
use Rattle.column_stage.specs.Acts.{Act, Leads, Placed}
use Rattle.column_stage.proofs.LeadingLemmas.{acts_next}
use Rattle.session_meaning.specs.Columns.{acts_of_letters}
use Rattle.cosmos_session.proofs.columns.place_letters.Goals as goal

-- the node that was found is that of the name
node_found : (c : CircuitData) (name text : List ℕ) (found : Option ℕ) (node : ℕ) → text ≡ name → found ≡ node_of c.names text → found ≡ Some node → node_named c name ≡ node
node_found c name text found node same is there =
    ap (λ (one : Option ℕ). unwrap_or one 0) (ap (node_of c.names) (sym same) ∙ sym is ∙ there)

pub loop-name-init : goal.loop-name-init
loop-name-init g c = record {
  columns = refl;
  sound = c.requires.sound;
  last = refl;
  serves = λ kept serving. serving;
  did = λ end rest. rest;
}

pub unwrap-node-requires : goal.unwrap-node-requires
unwrap-node-requires g c =
    rw (c.find.ensures.value, c.items.ensures, c.loop-name-item.is) (c.requires.known c.loop-name.name-index c.loop-name-item.result (omega arith))

pub place_node-requires-clause-sound : goal.place_node-requires-clause-sound
place_node-requires-clause-sound g c = rw c.graph.ensures.value c.loop-name.invariant.sound

pub place_node-requires-clause-inside : goal.place_node-requires-clause-inside
place_node-requires-clause-inside g c =
    let inside : c.unwrap-node.result < nodes c.args.circuit.now.graph = rw c.unwrap-node.ensures at c.find.ensures.within in
    rw c.graph.ensures.value inside

pub place_node-requires-clause-no_rail : goal.place_node-requires-clause-no_rail
place_node-requires-clause-no_rail g c =
    let circuit = c.args.circuit.now in
    let item = c.loop-name-item.result in
    let past : RAILS ≤ node_named circuit item.0 =
    subst (λ (one : List ℕ × List Tern). RAILS ≤ node_named circuit one.0) (sym c.loop-name-item.is)
    (c.requires.past c.loop-name.name-index item (omega arith)) in
    subst (λ (node : ℕ). RAILS ≤ node)
    (node_found circuit item.0 c.items.result.now c.find.result c.unwrap-node.result c.items.ensures c.find.ensures.value c.unwrap-node.ensures) past

pub place_node-requires-clause-letters : goal.place_node-requires-clause-letters
place_node-requires-clause-letters g c =
    rw (c.items-in-loop-name.ensures, c.loop-name-item.is, c.loop-name.invariant.columns)
    (c.requires.fit c.loop-name.name-index c.loop-name-item.result (omega arith))

pub loop-name-preserved : goal.loop-name-preserved
loop-name-preserved g c =
    let circuit = c.args.circuit.now in
    let list = c.args.list.now in
    let place = c.loop-name.name-index in
    let item : List ℕ × List Tern = c.loop-name-item.result in
    let node = c.unwrap-node.result in
    let within : place < length list = omega arith in
    let named : node_named circuit item.0 ≡ node =
    node_found circuit item.0 c.items.result.now c.find.result node c.items.ensures c.find.ensures.value c.unwrap-node.ensures in
    let placed : g.M.Columns.did (Placed circuit.graph node item.1) c.loop-name.stage c.place_node.new.stage =
    rw (c.graph.ensures.value, c.items-in-loop-name.ensures) at c.place_node.ensures.did in
    let did : g.M.Columns.did (Placed circuit.graph (node_named circuit item.0) item.1) c.loop-name.stage c.place_node.new.stage =
    subst (λ (n : ℕ). g.M.Columns.did (Placed circuit.graph n item.1) c.loop-name.stage c.place_node.new.stage) (sym named) placed in
    record {
      columns = c.place_node.ensures.columns ∙ c.loop-name.invariant.columns;
      sound = rw c.graph.ensures.value at c.place_node.ensures.sound;
      last = c.place_node.ensures.last ∙ c.loop-name.invariant.last;
      serves = λ kept serving. (rw c.graph.ensures.value at c.place_node.ensures.serves) kept (c.loop-name.invariant.serves kept serving);
      did = λ end rest. c.loop-name.invariant.did end
          (subst (λ (acts : List Act). Leads g.M.Columns.did c.loop-name.stage acts end)
          (sym (acts_next (λ (one : List ℕ × List Tern). Placed circuit.graph (node_named circuit one.0) one.1) list place item within c.loop-name-item.is))
          (c.place_node.new.stage, did, rest));
    }

pub returns-clause-did : goal.returns-clause-did
returns-clause-did g c =
    let circuit = c.args.circuit.now in
    c.loop-name.invariant.did c.loop-name.stage
    (subst (λ (left : List (List ℕ × List Tern)). Leads g.M.Columns.did c.loop-name.stage (acts_of_letters circuit left) c.loop-name.stage)
    (sym (drop_all c.loop-name.name-index c.args.list.now (omega arith))) refl)
