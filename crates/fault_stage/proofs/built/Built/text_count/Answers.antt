-- The machine counts the distinct texts of its groups.
use Rattle.std.proofs.Common.{Some, refl}
use Rattle.machine_stage.proofs.ReportLemmas.{texts_counted}
use Rattle.beside.specs.Fitting.{all_marked}
use Rattle.fault_stage.proofs.CourseLemmas.{fits_anyway}
use Rattle.fault_stage.proofs.built.Built.text_count.Goals as goal

pub returns : goal.returns
returns c = λ large texts has.
    let b = c.args.self.now in
    texts_counted b.graph (Some (all_marked b.machine))
    (record { machine = all_marked b.machine; there = refl; fits = fits_anyway b.good b.graph b.machine b.state.items b.course c.requires.goes }) large texts has
    c.texts.result c.texts.ensures
