-- One node more is no member, or one is.
use Rattle.std.proofs.Common.{◌≡◌, ℕ, ◌+◌, [], ◌∷◌, ◌++◌, inl, inr, take, get_or, sym, subst, arith}
use Rattle.std.specs.Prelude.{Contains}
use Rattle.std.proofs.lemmas.List.{take_all, take_more}
use Rattle.std.proofs.lemmas.List.Elements.{Contains-push_cases}
use Rattle.switch_paths.specs.Graphs.{IsStorage}
use Rattle.vicinity.proofs.wide.Wide.has_any.Goals as goal

pub loop-node-init : goal.loop-node-init
loop-node-init c = λ node there storage. absurd (omega (arith, there.1))

pub loop-node-preserved : goal.loop-node-preserved
loop-node-preserved c = λ node there storage.
    let nodes = c.args.nodes.now in
    let i = c.loop-node.node-index in
    let more : take (i + 1) nodes ≡ take i nodes ++ get_or nodes i 0 ∷ [] = take_more nodes i 0 c.loop-node-test.true in
    elim (Contains-push_cases (take i nodes) (get_or nodes i 0) node (subst (λ xs. Contains xs node) more there)) [
      | inl before ↦ c.loop-node.invariant node before storage
      | inr same ↦ absurd (cc (c.has.ensures.1 (subst (IsStorage c.args.self.now.graph) (sym same) storage), c.if-has.false))
    ]

pub returns : goal.returns
returns c =
    let nodes = c.args.nodes.now in
    let all : take c.loop-node.node-index nodes ≡ nodes = take_all c.loop-node.node-index nodes (omega (arith, c.loop-node-test.false)) in (
      (λ is. absurd cc),
      (λ (some : (node : ℕ) × Contains nodes node × IsStorage c.args.self.now.graph node).
          absurd (c.loop-node.invariant some.0 (subst (λ xs. Contains xs some.0) (sym all) some.1) some.2)),
    )
