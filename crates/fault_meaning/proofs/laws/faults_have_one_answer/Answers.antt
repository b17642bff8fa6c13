use Rattle.fault_meaning.proofs.UniqueJudging.{judged_faults_unique}
use Rattle.fault_meaning.proofs.laws.faults_have_one_answer.Goals as goal

pub returns : goal.returns
returns c = judged_faults_unique
