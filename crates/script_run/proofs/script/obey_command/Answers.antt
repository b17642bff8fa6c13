-- A command's fault is that of its line.
use Rattle.std.proofs.Common.{Err}
use Rattle.script_meaning.proofs.TurnLemmas.{takes_turn}
use Rattle.script_run.proofs.script.obey_command.Goals as goal

pub returns-in-Err-clause-turn : goal.returns-in-Err-clause-turn
returns-in-Err-clause-turn g c = λ reading cut line asks.
    rw c.turn_of.ensures.turn
    (takes_turn g.L.Lines.hear g.L.Lines.part reading cut line c.args.command.now _ _ _ _ _ _ _ _ (Err c.in-Err.fault) asks c.in-Err.ensures.obeys).0
