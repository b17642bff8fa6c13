-- Words of a node are put in their place, and the parts that it concerns marked.
use Rattle.std.proofs.Common.{◌≡◌, ◌<◌, length, refl, sym, ap, ◌∙◌, arith}
use Rattle.std.specs.Prelude.{slice_set}
use Rattle.std.proofs.lemmas.List.{length-set}
use Rattle.column_machines.specs.Columns.{WordData}
use Rattle.column_machines.specs.Evaluating.{rooms}
use Rattle.column_machines.specs.Running.{AreColumns}
use Rattle.column_machines.proofs.MakingLemmas.{IsWordMachine-again}
use Rattle.column_machines.proofs.FittingLemmas.{AreRailsIn-placed}
use Rattle.column_machines.proofs.machine.WordMachine.put.Goals as goal

pub mark_concerned-requires-clause-inside : goal.mark_concerned-requires-clause-inside
mark_concerned-requires-clause-inside c =
    omega (arith, c.requires.inside, ap (λ (d : WordData). length d.hi) c.self.view_is, c.self.invariant.0.nodes)

pub mark_concerned-requires-clause-counted : goal.mark_concerned-requires-clause-counted
mark_concerned-requires-clause-counted c = c.self.invariant.0.runs.counted

pub invariant_of-self : goal.invariant_of-self
invariant_of-self c =
    let i = c.self.inside in
    let m = c.self.invariant.0 in
    let node = c.args.node in
    let hi = slice_set i.hi.items node c.args.hi in
    let lo = slice_set i.lo.items node c.args.lo in
    let inside : node < length i.hi.items = omega (arith, c.requires.inside, ap (λ (d : WordData). length d.hi) c.self.view_is) in
    let columns : c.args.self.now.columns ≡ i.columns = ap (λ (d : WordData). d.columns) (sym c.self.view_is) in
    let columns_are : AreColumns i.columns hi lo = record {
      counted = length-set i.lo.items node c.args.lo ∙ (m.columns_are.counted ∙ sym (length-set i.hi.items node c.args.hi));
      each = λ column within.
          AreRailsIn-placed column node c.args.hi c.args.lo i.hi.items i.lo.items m.columns_are.counted inside
          (c.requires.states column (omega (arith, within, columns))) (m.columns_are.each column within);
    } in (
      IsWordMachine-again i.columns i.used i.machine i.agenda c.mark_concerned.new.agenda i.hi.items i.lo.items hi lo
          (rooms i.workspace) (rooms i.workspace)
          c.mark_concerned.ensures.count (length-set i.hi.items node c.args.hi) refl columns_are m,
      c.self.invariant.1,
    )

pub returns-clause-places : goal.returns-clause-places
returns-clause-places c =
    rw (← c.self.view_is) (record { highs = refl; lows = refl; marks = c.mark_concerned.ensures; columns = refl; machine = refl })

pub returns-clause-counted : goal.returns-clause-counted
returns-clause-counted c = rw (← c.self.view_is) c.self.invariant.0.columns_are.counted
