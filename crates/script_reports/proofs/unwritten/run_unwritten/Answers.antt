-- Silence never fails, and what is asked of the session and known of it is what obeying its lines asks and tells.
use Rattle.line_words.specs.Files as file
use Rattle.script_reports.proofs.UnfailingLemmas.{halts_obeyed, memory_alone}
use Rattle.script_reports.proofs.unwritten.run_unwritten.Goals as goal

pub obey_seen-requires-clause-ready : goal.obey_seen-requires-clause-ready
obey_seen-requires-clause-ready g c = c.requires.ready

pub obey_seen-requires-clause-knows : goal.obey_seen-requires-clause-knows
obey_seen-requires-clause-knows g c = c.requires.knows

pub returns-clause-halts : goal.returns-clause-halts
returns-clause-halts g c =
    halts_obeyed _ _ _ (file.cut_line c.args.text.now) c.args.session.now.core (file.lines_in c.args.text.now) c.obey_seen.new.session.core _ _
    (g.A.Analyst.analysed c.args.analyst.now) (g.A.Analyst.analysed c.obey_seen.new.analyst) c.obey_seen.result c.obey_seen.ensures.told

pub returns-clause-memory : goal.returns-clause-memory
returns-clause-memory g c = memory_alone c.obey_seen.result c.obey_seen.ensures.no_read c.obey_seen.ensures.write

pub returns-clause-seen : goal.returns-clause-seen
returns-clause-seen g c = c.obey_seen.ensures.seen

pub returns-clause-knows : goal.returns-clause-knows
returns-clause-knows g c = c.obey_seen.ensures.knows
