-- The node is passed over, or comes behind the others.
use Rattle.std.proofs.Common.{◌≡◌, [], ◌∷◌, ◌++◌, inl, inr, refl, rules}
use Rattle.unit_step.proofs.waking.add_unless_passed.Goals as goal

pub returns-then-is_passed : goal.returns-then-is_passed
returns-then-is_passed c = inl (refl, c.is_passed.ensures.0 c.if-is_passed.true)

pub returns : goal.returns
returns c =
    let pushed : c.push.new.self.items ≡ c.args.nodes.now.items ++ c.args.node ∷ [] = search rules in
    inr pushed
