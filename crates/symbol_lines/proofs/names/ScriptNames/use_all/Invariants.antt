-- The names so far and those that are left come to what all do, and variables were only added.
use Rattle.std.proofs.Common.{◌≡◌, ◌≤◌, drop, length, take}
use Rattle.symbol_lines.specs.Names.{with_names}
use Rattle.symbol_lines.proofs.names.ScriptNames.use_all.Given as goal

abbrev pub invariant-loop-name : goal.invariant-loop-name
invariant-loop-name l = record {
  same : with_names (drop l.name-index l.used) l.self ≡ with_names l.used l.fn.self;
  front : take (length l.fn.self.variables) l.self.variables ≡ l.fn.self.variables;
  longer : length l.fn.self.variables ≤ length l.self.variables;
  defined : l.self.defined ≡ l.fn.self.defined;
}
