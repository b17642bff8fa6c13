-- With all its parts marked the machine covers its graph.
use Rattle.fault_stage.proofs.LeadingLemmas.{covered_ended, last_ended}
use Rattle.fault_stage.proofs.built.Built.ended.Goals as goal

pub returns-clause-last_run : goal.returns-clause-last_run
returns-clause-last_run c = λ covered. record {
  machine = covered_ended c.args.self c.mark_all_parts.new.self c.requires c.has_a_mark_for_each_part.ensures c.mark_all_parts.ensures;
  apart = c.requires.apart;
}

pub returns-clause-texts : goal.returns-clause-texts
returns-clause-texts c = last_ended c.args.self.machine c.mark_all_parts.new.self c.mark_all_parts.ensures
