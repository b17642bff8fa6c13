-- So many parts of the machine have members as there are groups.
use Rattle.machine_stage.proofs.ReportLemmas.{groups_counted}
use Rattle.machine_stage.proofs.plain.MachineStagePlainStage.groups.Goals as goal

pub returns : goal.returns
returns c = λ large texts has.
    groups_counted c.args._graph.now c.args.self.now.machine c.requires large texts has c.group_count.result c.group_count.ensures
