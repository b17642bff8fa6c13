-- What the crates below show of commands and of sessions.
use Rattle.std.proofs.Common.{List}
use Rattle.netlist.specs.Circuits.{CircuitData, IsCircuit}
use Rattle.script_lang.specs.declared.command.Command.{Command}
use Rattle.script_lang.specs.Forms.{IsFormed}
use Rattle.group_text.specs.Texts.{GroupTextData}
use Rattle.session_meaning.specs.Sessions.{SessionData, IsReady, start_of}
use Rattle.told_lines.specs.Lines.{Line}
use Rattle.session_meaning.specs.Outcomes.{Performs}
use Rattle.session_meaning.proofs.EffectLemmas as effects

-- how a formed command ends: it is refused, or a group is too large for it, or it is performed
pub command_ends : (session : SessionData) (command : Command) → IsReady session → IsFormed command → effects.Ends session command
command_ends session command ready formed = effects.ends session command ready formed

-- what is done for a command keeps the data ready
pub ready-performs : (old new : SessionData) (command : Command) (lines : List Line) (texts : List GroupTextData) → IsReady old →
    Performs old command new lines texts → IsReady new
ready-performs old new command lines texts ready performs = effects.ready-performs old new command lines texts ready performs

-- a session starts ready
pub ready-start : (circuit : CircuitData) → IsCircuit circuit → IsReady (start_of circuit)
ready-start circuit is = effects.ready-start circuit is
