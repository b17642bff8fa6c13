-- One node less.
use Rattle.std.proofs.Common.{◌≡◌, ℕ, ◌≤◌, [], ◌∷◌, ◌++◌, false, length, take, ap, sym, ◌∙◌, arith}
use Rattle.std.specs.Prelude.{slice_set}
use Rattle.std.proofs.lemmas.List.{length-set, length_push, take-append-le, take_all}
use Rattle.run_beside.proofs.NearLemmas.{popped}
use Rattle.run_beside.proofs.near.cut.Goals.{After-pop-node}
use Rattle.run_beside.proofs.near.cut.Goals as goal

-- the last node is taken out
last : (c : After-pop-node) → (node : ℕ) × (c.loop-set.set.list ≡ c.pop-node.new.self.list ++ node ∷ []) ×
    (c.pop-node.new.self.inside ≡ slice_set c.loop-set.set.inside node false)
last c =
    popped c.loop-set.set c.pop-node.new.self c.pop-node.result (omega (arith, c.loop-set-test.true, c.len.ensures.value)) c.len.ensures.only
    c.pop-node.ensures.list c.pop-node.ensures.inside c.pop-node.ensures.empty

pub loop-set-smaller : goal.loop-set-smaller
loop-set-smaller c =
    let (node, list, inside) = last (goal.at.loop-set-smaller c).After-pop-node in
    omega (arith, ap length list, length_push c.pop-node.new.self.list node)

pub loop-set-preserved : goal.loop-set-preserved
loop-set-preserved c =
    let (node, list, inside) = last (goal.at.loop-set-preserved c).After-pop-node in
    let rest = c.pop-node.new.self.list in
    let count = c.args.count in
    let most : count ≤ length rest =
    omega (arith, c.loop-set-test.true, c.len.ensures.value, ap length list, length_push rest node) in
    record {
      first = sym (take-append-le count rest (node ∷ []) most) ∙ (ap (take count) (sym list) ∙ c.loop-set.invariant.first);
      counted = ap length inside ∙ (length-set c.loop-set.set.inside node false ∙ c.loop-set.invariant.counted);
    }

pub returns : goal.returns
returns c = record {
  counted = c.loop-set.invariant.counted;
  list =
      sym (take_all c.args.count c.loop-set.set.list (omega (arith, c.loop-set-test.false, c.len.ensures.value))) ∙ c.loop-set.invariant.first;
  listed = c.lists_what_is_in_it.ensures.listed;
  only = c.lists_what_is_in_it.ensures.only;
}
