-- One column more moved, and at the end what is even again is uneven no longer.
use Rattle.std.proofs.Common.{◌≡◌, ◌+◌, ℕ, set, refl, sym, subst, ◌∙◌, arith}
use Rattle.std.proofs.lemmas.List.{length-set}
use Rattle.column_machines.specs.Turns.{TurnData, HaveRun}
use Rattle.column_machines.proofs.TurnLemmas.{HaveRun-none, HaveRun-next}
use Rattle.column_machines.proofs.turns.TurnMachine.run.Goals as goal

pub loop-column-init : goal.loop-column-init
loop-column-init c = record {
  run = HaveRun-none c.args.graph.now c.args.limit c.args.self.now c.args.out.now c.columns-columns.ensures.is;
  places = refl;
}

pub run_one-requires-clause-column : goal.run_one-requires-clause-column
run_one-requires-clause-column c = omega (arith, c.loop-column.invariant.places, c.loop-column.invariant.run.columns, c.requires.places)

pub loop-column-preserved : goal.loop-column-preserved
loop-column-preserved c =
    let so_far = c.loop-column.invariant in
    let old = c.args.self.now in
    let column = c.loop-column.column in
    let new = c.run_one.new.self in
    record {
      run = subst
          (λ (n : ℕ).
          HaveRun c.args.graph.now c.args.limit (column + 1) old (record { columns = n; machine = new.machine; hi = new.hi; lo = new.lo }) (set c.loop-column.out column c.run_one.result))
          (sym c.run_one.ensures.columns)
          (HaveRun-next c.args.graph.now c.args.limit column old c.loop-column.self c.loop-column.out new.machine new.hi new.lo
          c.run_one.result so_far.run
          (omega (arith, so_far.places, c.requires.places)) (so_far.places ∙ c.requires.places) c.run_one.ensures.runs);
      places = length-set c.loop-column.out column c.run_one.result ∙ so_far.places;
    }

pub returns : goal.returns
returns c =
    let old = c.args.self.now in
    let end : c.loop-column.column ≡ old.columns = omega (arith, c.loop-column.invariant.places, c.requires.places) in
    subst (λ (new : TurnData). HaveRun c.args.graph.now c.args.limit old.columns old new c.loop-column.out) (sym c.even_out.ensures)
    (subst (λ (count : ℕ). HaveRun c.args.graph.now c.args.limit count old c.loop-column.self c.loop-column.out) end c.loop-column.invariant.run)
