use Rattle.dump_run.proofs.RunDumps.{dumps_run, dump_of_run}
use Rattle.dump_run.proofs.laws.dumps_are_those_of_runs.Goals as goal

pub returns-clause-there : goal.returns-clause-there
returns-clause-there c = dumps_run

pub returns-clause-alone : goal.returns-clause-alone
returns-clause-alone c = dump_of_run
