-- Each instruction is the same.
use Rattle.std.proofs.Common.{◌≡◌, sym, ◌∙◌}
use Rattle.std.proofs.lemmas.Bool.{OnTrue_from}
use Rattle.straight_code.specs.contracts.code.InstructionPartialEq.TheImpl as instruction
use Rattle.part_steps.proofs.SameCodes.{instruction_same, same_lists}
use Rattle.part_steps.proofs.dense.are_same_instructions.Goals as goal

pub returns : goal.returns
returns c =
    OnTrue_from c.eq.result (c.args.these.now ≡ c.args.others.now) (λ is.
    same_lists instruction.eq-value.it instruction_same c.args.these.now c.args.others.now (sym c.eq.ensures ∙ is))
