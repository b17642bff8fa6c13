-- The gate at a place more is lowered.
use Rattle.std.proofs.Common.{sym, subst, ◌∙◌}
use Rattle.bool_pool.specs.Gate.{IsOperand}
use Rattle.formula_code.proofs.LoweringLemmas.{AreLowered-more}
use Rattle.formula_code.proofs.linear.Lowered.lower.Goals as goal

pub returns : goal.returns
returns c = λ inputs places variable before.
    let own = c.in_ok-operand.ensures in
    rw own.instructions
    (AreLowered-more c.args.pool.now inputs c.args.place places c.args.self.now.instructions.items _ before c.gate.result _
    (sym c.gate.ensures.gate) c.gate.ensures.value
    (λ k operand. c.requires.operands k (c.gate.ensures.order k operand) (subst (λ g. IsOperand g k) c.gate.ensures.gate operand))
    (λ v is. variable v (sym c.gate.ensures.gate ∙ is))
    (λ k. rw (own.operand, own.noted) at (c.in_ok-insert.ensures.updates.0 k)))
