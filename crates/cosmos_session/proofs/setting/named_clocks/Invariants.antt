use Rattle.std.proofs.Common.{◌≡◌, ◌<◌, ◌≤◌, All, ◌+◌, ◌-◌, ◌++◌, map, drop, length, vec_len, vec_capacity}
use Rattle.switch_paths.specs.Graphs.{nodes}
use Rattle.session_meaning.specs.Sessions.{ClockData}
use Rattle.session_meaning.specs.Effects.{clock_of}
use Rattle.cosmos_session.proofs.setting.named_clocks.Given as goal

abbrev pub invariant-loop-name : goal.invariant-loop-name
invariant-loop-name l = record {
  done : l.clocks.items ++ map (clock_of l.circuit) (drop l.name-index l.list) ≡ map (clock_of l.circuit) l.list;
  within : All (λ (clock : ClockData). clock.node < nodes l.circuit.graph) l.clocks.items;
  room : vec_len l.clocks + (length l.list - l.name-index) ≤ vec_capacity l.clocks;
}
