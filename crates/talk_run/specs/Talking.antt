-- A whole talk in a circuit: what was said behind each line is its answer, from the start.
use Rattle.std.specs.Prelude.{◌≡◌, ◌⊎◌, List, Option, None, Result, Ok, Err}
use Rattle.netlist.specs.Circuits.{CircuitData}
use Rattle.group_text.specs.Texts.{GroupTextData}
use Rattle.talk_port.specs.Talks.{TalkData}
use Rattle.talk_port.specs.Conversing.{Converses, BreaksOff}
use Rattle.talk_port.specs.declared.conversing.Broken.{Broken}
use Rattle.talk_port.specs.declared.conversing.Broken.TheVariants.{Unheard, Unsaid}
use Rattle.run_ends.specs.declared.stop.End as end
use Rattle.run_ends.specs.declared.stop.Stop.{Stop}
use Rattle.run_ends.specs.Ends.{status_of}
use Rattle.run_ends.specs.Stops.{read_stop_of, write_stop_of}
use Rattle.script_meaning.specs.Runs.{status_told}
use Rattle.talk_run.specs.Asking.{quits}
use Rattle.talk_run.specs.Answers.{TalkMind, start_in, IsAnswer, BreaksAnswer}

-- a talk was held in a circuit to its end, and its status is that of a script with the same expectations
pub record IsHeld (circuit : CircuitData) (asked : List GroupTextData) (before after : Option TalkData) (ending : end.End) : Type 0 where
  pub new : TalkMind
  pub holds : Converses IsAnswer quits (start_in circuit asked) new before after
  pub ended : status_of ending ≡ status_told new.core None

-- a talk broke off, or none began
abbrev pub IsBroken : CircuitData → List GroupTextData → Option TalkData → Option TalkData → Type 0
IsBroken circuit asked before after =
    (after ≡ before) ⊎ ((new : TalkMind) × BreaksOff IsAnswer quits BreaksAnswer (start_in circuit asked) new before after)

-- what a talk in a circuit comes to
abbrev pub TalksIn : CircuitData → List GroupTextData → Option TalkData → Option TalkData → Result end.End Stop → Type 0
TalksIn circuit asked before after (Ok ending) = IsHeld circuit asked before after ending
TalksIn circuit asked before after (Err stop) = IsBroken circuit asked before after

-- what stops a talk that breaks off
abbrev pub broken_stop : Broken → Stop
broken_stop (Unheard fault) = read_stop_of fault
broken_stop (Unsaid fault) = write_stop_of fault
