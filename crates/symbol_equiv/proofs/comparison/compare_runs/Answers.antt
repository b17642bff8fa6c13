-- What the comparison tells is what was written.
use Rattle.std.proofs.Common.{◌≡◌, inl, refl, subst, sym, Result}
use Rattle.run_ends.specs.declared.stop.End as end
use Rattle.symbol_comparing.specs.Notes.{shown_in}
use Rattle.symbol_equiv.specs.declared.fault.EqualFault.{EqualFault}
use Rattle.symbol_equiv.specs.Ends.{faults_equal, ComparesAs, RefusedEqual}
use Rattle.symbol_equiv.proofs.FaultLemmas.{compare_counts, compare_refused, compare_told}
use Rattle.symbol_equiv.proofs.comparison.compare_runs.Goals as goal

pub returns-in-Ok-clause-told : goal.returns-in-Ok-clause-told
returns-in-Ok-clause-told g c = λ v are.
    subst (λ (result : Result end.End EqualFault). ComparesAs v c.args.variables.now (shown_in c.args.symbols c.args.first.now)
    (shown_in c.args.symbols c.args.second.now) (g.S.Sink.written c.args.sink) (g.S.Sink.written c.compare-sink.result.0) result) (sym c.compared.ensures)
    (compare_told v c.args.variables.now (shown_in c.args.symbols c.args.first.now) (shown_in c.args.symbols c.args.second.now)
    (g.S.Sink.written c.args.sink) (g.S.Sink.written c.compare-sink.result.0) c.compare-sink.result.1 (c.compare-sink.ensures.told v are))

pub returns-in-Ok-clause-write : goal.returns-in-Ok-clause-write
returns-in-Ok-clause-write g c =
    subst (λ (result : Result end.End EqualFault). g.S.Sink.faults c.compare-sink.result.0 ≡ faults_equal (g.S.Sink.faults c.args.sink) result)
    (sym c.compared.ensures) (compare_counts (g.S.Sink.faults c.args.sink) (g.S.Sink.faults c.compare-sink.result.0) c.compare-sink.result.1 c.compare-sink.ensures.write)

pub returns-in-Ok-clause-refused : goal.returns-in-Ok-clause-refused
returns-in-Ok-clause-refused g c =
    subst (λ (result : Result end.End EqualFault). RefusedEqual (g.S.Sink.refusals c.args.sink) (g.S.Sink.refusals c.compare-sink.result.0) result)
    (sym c.compared.ensures)
    (compare_refused (g.S.Sink.refusals c.args.sink) (g.S.Sink.refusals c.compare-sink.result.0) c.compare-sink.result.1 c.compare-sink.ensures.refused)

pub returns-clause-told : goal.returns-clause-told
returns-clause-told g c = λ v are. inl refl
