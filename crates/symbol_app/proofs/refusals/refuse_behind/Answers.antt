-- The text and the line behind it were written, or a part of both.
use Rattle.std.proofs.Common.{ap, ◌∙◌}
use Rattle.run_ends.specs.Stops.{faults_written}
use Rattle.cosmos_app.specs.Named.{IsCircuitRefusal}
use Rattle.symbol_app.proofs.SymbolLemmas.{part_behind, refusal_told, told_behind}
use Rattle.symbol_app.proofs.refusals.refuse_behind.Goals as goal

pub returns-in-Ok-clause-told : goal.returns-in-Ok-clause-told
returns-in-Ok-clause-told g c =
    told_behind c.args.front.now (IsCircuitRefusal c.args.refusal) (g.S.Sink.written c.args.out.now) (g.S.Sink.written c.send.new.out)
    (g.S.Sink.written c.refuse_circuit.new.out) c.refuse_circuit.result (refusal_told c.args.refusal) c.in-Ok.ensures.ok c.refuse_circuit.ensures.told

pub returns-in-Err-clause-told : goal.returns-in-Err-clause-told
returns-in-Err-clause-told g c =
    part_behind c.args.front.now (IsCircuitRefusal c.args.refusal) (g.S.Sink.written c.args.out.now) (g.S.Sink.written c.send.new.out) c.of_write.result
    (refusal_told c.args.refusal) c.in-Err.ensures.part

pub returns-in-Ok-clause-write : goal.returns-in-Ok-clause-write
returns-in-Ok-clause-write g c = c.refuse_circuit.ensures.write ∙ ap (λ n. faults_written n c.refuse_circuit.result) c.in-Ok.ensures.cause
