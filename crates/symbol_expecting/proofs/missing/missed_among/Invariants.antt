-- The function holds where the nodes before this one aren't all as they are wanted.
use Rattle.std.proofs.Common.{◌≡◌, ℕ, ◌<◌, not, take}
use Rattle.truth_makers.specs.Makers.{function_holds, IsFunctionOf}
use Rattle.symbol_stage.specs.Stages.{columns_on}
use Rattle.symbol_expecting.specs.Missing.{are_met_in, MakesOn}
use Rattle.symbol_expecting.proofs.missing.missed_among.Given as goal

abbrev pub invariant-loop-k : goal.invariant-loop-k
invariant-loop-k l = record {
  makes : MakesOn l.fn.stage l.stage;
  inside : IsFunctionOf l.stage.machine.maker l.made;
  value : (column : ℕ) → column < columns_on l.fn.stage →
      function_holds l.stage.machine.maker l.made column ≡ not (are_met_in l.fn.stage (take l.k l.pairs) column);
}
