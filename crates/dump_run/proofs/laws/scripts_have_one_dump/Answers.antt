use Rattle.dump_run.proofs.UniqueDumps.{dumps_unique, dump_answer_unique}
use Rattle.dump_run.proofs.laws.scripts_have_one_dump.Goals as goal

pub returns-clause-dumps : goal.returns-clause-dumps
returns-clause-dumps c = dumps_unique

pub returns-clause-answers : goal.returns-clause-answers
returns-clause-answers c = dump_answer_unique
