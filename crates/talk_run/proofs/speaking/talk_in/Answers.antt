-- A talk that broke off did so from the session's start, by a fault that stops it so.
use Rattle.std.proofs.Common.{sym, ap, ◌∙◌}
use Rattle.run_ends.specs.Stops.{read_at, written_at}
use Rattle.talk_run.proofs.StopLemmas.{broken_counted}
use Rattle.talk_run.proofs.TalkingLemmas.{broken}
use Rattle.talk_run.proofs.speaking.talk_in.Goals as goal

pub returns-clause-told : goal.returns-clause-told
returns-clause-told g c =
    broken c.args.circuit c.in_ok-session.session.core (g.A.Analyst.analysed c.args.analyst) _ c.args.port.now.spoken.talk c.converse.new.port.spoken.talk
    c.in_ok-session.ensures.core c.in-Err.ensures.err

pub returns-clause-hearing : goal.returns-clause-hearing
returns-clause-hearing g c =
    c.in-Err.ensures.hearing ∙ (broken_counted c.args.port.now.spoken.unheard c.in-Err.broken).0
    ∙ ap (read_at c.args.port.now.spoken.unheard) (sym c.stop_of.ensures)

pub returns-clause-faults : goal.returns-clause-faults
returns-clause-faults g c =
    c.in-Err.ensures.cause ∙ (broken_counted c.args.port.now.faults c.in-Err.broken).1 ∙ ap (written_at c.args.port.now.faults) (sym c.stop_of.ensures)
