-- The pairs so far have their outputs.
use Rattle.std.proofs.Common.{◌≡◌, map, take, nat_eq}
use Rattle.indexmap.specs.IndexMap.{get}
use Rattle.formula_code.specs.Lowering.{output_of}
use Rattle.formula_code.proofs.linear.Lowered.outputs.Given as goal

abbrev pub invariant-loop-rails : goal.invariant-loop-rails
invariant-loop-rails l = l.outputs.items ≡ map (output_of (get nat_eq l.self.operands)) (take l.rails-index l.outs)
