-- The names before this one stand for their variables.
use Rattle.std.proofs.Common.{◌≡◌, ◌≤◌, length, take}
use Rattle.truth_machine.specs.Symbols.{MakesMore}
use Rattle.symbol_session.specs.Starting.{AreVariables}
use Rattle.symbol_session.proofs.starting.name_variables.Given as goal

abbrev pub invariant-loop-k : goal.invariant-loop-k
invariant-loop-k l = record {
  makes : MakesMore l.fn.stage.machine l.stage.machine;
  built : l.stage.built ≡ l.fn.stage.built;
  names : l.names.names ≡ take l.k l.variables;
  stand : AreVariables l.stage.machine.maker l.k l.names;
  within : l.k ≤ length l.variables;
}
