-- A node more has the same state in both runs.
use Rattle.std.proofs.Common.{◌≡◌, ℕ, ◌+◌, ◌++◌, ◌∷◌, [], true, inl, inr, take, get_or, sym, subst, arith}
use Rattle.std.specs.Prelude.{Contains}
use Rattle.std.proofs.lemmas.Bool.{OnTrue_from, OnFalse_at}
use Rattle.std.proofs.lemmas.List.{take_all, take_more}
use Rattle.std.proofs.lemmas.List.Elements.{Contains-get_or, Contains-push_cases}
use Rattle.switch_paths.specs.Switching.{state_at}
use Rattle.unit_step.proofs.beside.agree_on.Goals as goal

pub loop-node-init : goal.loop-node-init
loop-node-init c = record { same = λ node there. absurd (omega (arith, there.1)) }

pub differ_at-requires-clause-inside : goal.differ_at-requires-clause-inside
differ_at-requires-clause-inside c =
    let inside = c.requires.inside _ (Contains-get_or c.args.nodes.now c.loop-node.node-index 0 c.loop-node-test.true) in
    omega (arith, inside, c.requires.counted)

pub differ_at-requires-clause-also : goal.differ_at-requires-clause-also
differ_at-requires-clause-also c = c.requires.inside _ (Contains-get_or c.args.nodes.now c.loop-node.node-index 0 c.loop-node-test.true)

pub loop-node-preserved : goal.loop-node-preserved
loop-node-preserved c =
    let nodes = c.args.nodes.now in
    let i = c.loop-node.node-index in
    let more : take (i + 1) nodes ≡ take i nodes ++ get_or nodes i 0 ∷ [] = take_more nodes i 0 c.loop-node-test.true in
    record {
      same = λ node there. elim (Contains-push_cases (take i nodes) (get_or nodes i 0) node (subst (λ xs. Contains xs node) more there)) [
        | inl before ↦ c.loop-node.invariant.same node before
        | inr is ↦
            subst (λ n. state_at c.args.bad.now n ≡ state_at c.args.good.now n) is (OnFalse_at c.if-differ_at.false c.differ_at.ensures)
      ];
    }

pub returns : goal.returns
returns c =
    let all : take c.loop-node.node-index c.args.nodes.now ≡ c.args.nodes.now =
    take_all c.loop-node.node-index c.args.nodes.now (omega (arith, c.loop-node-test.false)) in
    OnTrue_from true ((node : ℕ) → Contains c.args.nodes.now node → state_at c.args.bad.now node ≡ state_at c.args.good.now node) (λ set node there.
    c.loop-node.invariant.same node (subst (λ xs. Contains xs node) (sym all) there))
