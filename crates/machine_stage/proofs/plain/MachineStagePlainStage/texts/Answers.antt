-- The machine counts the distinct texts of its groups.
use Rattle.machine_stage.proofs.ReportLemmas.{texts_counted}
use Rattle.machine_stage.proofs.plain.MachineStagePlainStage.texts.Goals as goal

pub returns : goal.returns
returns c = λ large texts has.
    texts_counted c.args._graph.now c.args.self.now.machine c.requires large texts has c.text_count.result c.text_count.ensures
