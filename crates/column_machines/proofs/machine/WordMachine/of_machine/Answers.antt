-- All parts of a machine that fits the graph are marked, so each column fits it.
use Rattle.std.proofs.Common.{◌≡◌, sym, ◌∙◌}
use Rattle.column_machines.specs.Columns.{WordData, FitsInWords}
use Rattle.column_machines.specs.Making.{IsMadeOf}
use Rattle.column_machines.proofs.FittingLemmas.{FitsInWords-fresh, AreColumns-sound, if_made}
use Rattle.column_machines.proofs.machine.WordMachine.of_machine.Goals as goal

pub with_marks-requires : goal.with_marks-requires
with_marks-requires c = record {
  some = c.requires.some;
  few = c.requires.few;
  columns_are = AreColumns-sound c.args.graph.now c.args.columns c.args.hi.now c.args.lo.now
      (c.requires.lows ∙ sym c.requires.highs) c.requires.sound;
  nodes = c.requires.highs ∙ sym c.requires.machine.covers.counted;
}

pub returns-clause-fits : goal.returns-clause-fits
returns-clause-fits c =
    let g = c.args.graph.now in
    if_made (IsMadeOf c.args.columns c.args.machine c.args.hi.now c.args.lo.now) (FitsInWords g) c.with_marks.result c.with_marks.ensures
    (λ made is. FitsInWords-fresh g c.args.machine c.args.columns c.args.hi.now c.args.lo.now made c.requires.machine
    c.requires.without c.requires.last
    (c.requires.lows ∙ sym c.requires.highs) c.requires.sound is)

pub returns-clause-fresh : goal.returns-clause-fresh
returns-clause-fresh c =
    if_made (IsMadeOf c.args.columns c.args.machine c.args.hi.now c.args.lo.now)
    (λ (made : WordData). (made.columns ≡ c.args.columns) × (made.hi ≡ c.args.hi.now) × (made.lo ≡ c.args.lo.now)) c.with_marks.result c.with_marks.ensures
    (λ made is. (is.columns_are, is.highs, is.lows))

pub returns-clause-machine : goal.returns-clause-machine
returns-clause-machine c =
    if_made (IsMadeOf c.args.columns c.args.machine c.args.hi.now c.args.lo.now) (λ (made : WordData). made.machine ≡ c.args.machine) c.with_marks.result c.with_marks.ensures
    (λ made is. is.machine_is)
