-- The members of the group of one node more.
use Rattle.std.proofs.Common.{◌≡◌, ◌+◌, ◌++◌, ◌∷◌, [], ℕ, Vec, Global, take, get_or, sym, ap, subst, ◌∙◌, arith}
use Rattle.std.specs.Prelude.{◌↔◌, Contains}
use Rattle.std.proofs.lemmas.List.{take_more, take_all}
use Rattle.machine_laws.specs.Seating.{IsWithAny}
use Rattle.machine_laws.proofs.RenewingLemmas.{with_any_more, with_none_more, with_none_start}
use Rattle.unit_step.proofs.editing.members_with.Goals as goal
use Rattle.unit_step.proofs.editing.members_with.Goals.{then-node-count+in_ok-add_members, else-node-count}

pub loop-node-init : goal.loop-node-init
loop-node-init c = λ node. with_none_start c.args.groups.now.groups node _ c.new-found.ensures.items

pub loop-node-preserved : goal.loop-node-preserved
loop-node-preserved c = λ node.
    let (g, are) = c.requires.groups in
    let groups = c.args.groups.now.groups in
    let nodes = c.args.nodes.now in
    let i = c.loop-node.node-index in
    let n = get_or nodes i 0 in
    let more : take (i + 1) nodes ≡ take i nodes ++ n ∷ [] = take_more nodes i 0 c.loop-node-test.true in
    subst (λ list. Contains c.if-node-count.found.items node ↔ IsWithAny groups list node) (sym more)
    (elim c.if-node-count.branch [
      | then-node-count+in_ok-add_members w ↦
          with_any_more g groups are (take i nodes) n c.loop-node.found.items c.if-node-count.found.items c.loop-node.invariant _ w.group_at.ensures
          (ap (λ (v : Vec ℕ Global). v.items) w.found-is ∙ w.in_ok-add_members.ensures) node
      | else-node-count w ↦
          with_none_more g groups are (take i nodes) n c.loop-node.found.items c.loop-node.invariant
          (λ group there member. absurd (omega (arith, w.if-node-count.false, c.requires.below group n there member))) c.if-node-count.found.items
          (ap (λ (v : Vec ℕ Global). v.items) w.found-is) node
    ])

pub returns : goal.returns
returns c = λ node.
    let all : take c.loop-node.node-index c.args.nodes.now ≡ c.args.nodes.now =
    take_all c.loop-node.node-index c.args.nodes.now (omega (arith, c.loop-node-test.false)) in
    subst (λ list. Contains c.loop-node.found.items node ↔ IsWithAny c.args.groups.now.groups list node) all (c.loop-node.invariant node)
