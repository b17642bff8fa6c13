-- The lines of the code that are told of all valuations together, as they are meant: what is told, and with a waveform line the rails of its nodes.
use Rattle.std.specs.Prelude.{List}
use Rattle.decision_graph.specs.declared.vertex.Function.{Function}
use Rattle.symbol_meaning.specs.Told.{SwitchOfAll, SymbolTold, Wave, Unmet, Shown, Looked, AtEnd, AtGate}
use Rattle.symbol_told.specs.declared.lines.SwitchShown as code_switch
use Rattle.symbol_told.specs.declared.lines.ToldLine as code
use Rattle.symbol_told.specs.declared.lines.ToldLine.TheVariants as code_is

-- a line, and of a waveform line the rails of its nodes, where each may be 1 and where it may be 0
pub record Telling : Type 0 where
  pub line : SymbolTold
  pub highs : List Function
  pub lows : List Function

-- a transistor of the code
abbrev pub switch_seen : code_switch.SwitchShown → SwitchOfAll
switch_seen switch = record { number = switch.number; kind = switch.kind; strength = switch.strength; state = switch.state }

-- a line of the code
abbrev pub told_seen : code.ToldLine → SymbolTold
told_seen (code_is.Wave n k mark values) = Wave n k mark values.now
told_seen (code_is.Unmet name wanted got n truths) = Unmet name.now wanted.now got.now n truths.now
told_seen (code_is.Shown name values) = Shown name.now values.now
told_seen (code_is.Looked name state sort) = Looked name.now state sort
told_seen (code_is.AtEnd switch gate gate_state end end_state) = AtEnd (switch_seen switch) gate.now gate_state end.now end_state
told_seen (code_is.AtGate switch source source_state drain drain_state) = AtGate (switch_seen switch) source.now source_state drain.now drain_state

-- a line of the code with rails
abbrev pub telling_of : code.ToldLine → List Function → List Function → Telling
telling_of line highs lows = record { line = told_seen line; highs = highs; lows = lows }
