-- One part more is held.
use Rattle.std.proofs.Common.{◌≡◌, ℕ, ◌+◌, [], ◌∷◌, ◌++◌, All, take, get_or, sym, subst, arith}
use Rattle.std.proofs.lemmas.List.{take_all, take_more}
use Rattle.std.proofs.lemmas.List.Elements.{All-push}
use Rattle.machine_laws.specs.Finishing.{first_node}
use Rattle.wide_groups.specs.Staying.{HoldsNode}
use Rattle.unit_step.proofs.holding.holds_all.Goals as goal

pub loop-k-preserved : goal.loop-k-preserved
loop-k-preserved c =
    let these = c.args.these.now in
    let i = c.loop-k.k-index in
    let k = get_or these i 0 in
    let Held : ℕ → Type 0 = λ k. HoldsNode c.args.wide.now (first_node c.args.parts.now k) in
    let more : take (i + 1) these ≡ take i these ++ k ∷ [] = take_more these i 0 c.loop-k-test.true in
    let holds : Held k = subst (HoldsNode c.args.wide.now) c.least_member.ensures (c.holds_node.ensures.0 c.if-holds_node.true) in
    subst (All Held) (sym more) (All-push Held (take i these) k c.loop-k.invariant holds)

pub returns-clause-all : goal.returns-clause-all
returns-clause-all c =
    let these = c.args.these.now in
    subst (All (λ k. HoldsNode c.args.wide.now (first_node c.args.parts.now k))) (take_all c.loop-k.k-index these (omega (arith, c.loop-k-test.false)))
    c.loop-k.invariant
