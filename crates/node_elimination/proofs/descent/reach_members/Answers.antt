-- D is solved over inputs that the pool holds already.
use Rattle.std.proofs.Common.{◌≡◌, ◌<◌, length, ap, ◌∙◌, arith}
use Rattle.std.proofs.lemmas.List.{length-replicate}
use Rattle.std.proofs.lemmas.Result.{IfOk-weaker}
use Rattle.switch_paths.specs.Graphs.{nodes}
use Rattle.bool_pool.specs.declared.gate.Id.{Id}
use Rattle.node_elimination.proofs.DescentLemmas.{strong_shown, Grows-strong}
use Rattle.node_elimination.proofs.LevelParts.{all_closed, all_sure, FitLinks-of, sure-true}
use Rattle.node_elimination.proofs.descent.reach_members.Goals as goal

pub reach-requires-clause-fit : goal.reach-requires-clause-fit
reach-requires-clause-fit g c =
    let inputs = c.args.inputs.now in
    let pool = c.args.pool.now in
    let P : Id → Type 0 = λ id. id.place < length pool in
    let have = c.requires.inputs in
    let sure = all_sure P inputs have.formulas in
    let each_sure : length inputs.sure.items ≡ nodes c.args.graph.now =
    ap length have.each_sure ∙ length-replicate (nodes c.args.graph.now) inputs.truth in
    rw (c.deref.ensures.value, c.deref-2.ensures.value, c.deref-3.ensures.value)
    (FitLinks-of c.args.graph.now c.args.system.now.size pool inputs.sure.items inputs.closed.items inputs.sure.items
    c.requires.members
    (omega (arith, each_sure, c.requires.members.text.members)) (omega (arith, have.each_closed)) (omega (arith, each_sure))
    sure
    (all_closed P inputs have.formulas) sure)

pub returns-clause-shows : goal.returns-clause-shows
returns-clause-shows g c =
    let inputs = c.args.inputs.now in
    IfOk-weaker c.reach.result _ _
    (λ strong solves state vars shows.
    strong_shown c.args.graph.now c.graphs_are_wired.ensures c.args.system.now.size c.requires.members state vars
    c.args.level
    c.requires.level.low c.requires.level.high c.args.pool.now c.reach.new.pool inputs.closed.items inputs.sure.items
    strong.items
    shows.closed
    (λ k below. sure-true c.args.graph.now c.args.pool.now inputs vars k below c.requires.inputs.truth
    c.requires.inputs.each_sure)
    (rw (c.deref.ensures.value, c.deref-2.ensures.value, c.deref-3.ensures.value) at (solves vars)))
    c.reach.ensures.solves

pub returns-clause-grows : goal.returns-clause-grows
returns-clause-grows g c =
    IfOk-weaker c.reach.result _ _
    (λ strong grows.
    Grows-strong c.args.inputs.now _ _ strong.items _
    (rw (c.deref.ensures.value, c.deref-2.ensures.value, c.deref-3.ensures.value) at grows))
    c.reach.ensures.grows
