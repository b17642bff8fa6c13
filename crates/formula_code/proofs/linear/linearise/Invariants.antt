-- The places so far are lowered.
use Rattle.std.proofs.Common.{take, nat_eq}
use Rattle.indexmap.specs.IndexMap.{get}
use Rattle.formula_code.specs.Lowering.{AreLowered}
use Rattle.formula_code.proofs.linear.linearise.Given as goal

abbrev pub invariant-loop-place : goal.invariant-loop-place
invariant-loop-place l =
    AreLowered l.pool l.inputs (take l.place-index l.place-items) l.lowered.instructions.items (get nat_eq l.lowered.operands)
