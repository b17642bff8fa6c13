-- What was told of the circuit that was read, or of its refusal, is told of the name.
use Rattle.std.proofs.Common.{[], ◌∷◌, Ok, Err, refl, ap, inl, inr, ◌∙◌}
use Rattle.ports.proofs.ResultLemmas.{at_known, at_ok}
use Rattle.ports.proofs.TakenLemmas.{files_both}
use Rattle.run_ends.specs.Stops.{faults_read}
use Rattle.circuit_files.proofs.FeedingLemmas.{at_each}
use Rattle.symbol_app.specs.Comparisons.{IsComparedOver, RunsOutOverBoth}
use Rattle.cosmos_app.specs.Named.{circuit_named}
use Rattle.symbol_app.specs.Symbolic.{IsToldInAll}
use Rattle.cosmos_app.proofs.NetLemmas.{means_as, of_meaning}
use Rattle.symbol_app.proofs.SymbolLemmas.{read_none_in_all, starts_next, untouched_in_all, whole_last, whole_next}
use Rattle.symbol_app.proofs.comparing.equiv.Goals as goal

pub returns-in-Ok-Ok-clause-answer : goal.returns-in-Ok-Ok-clause-answer
returns-in-Ok-Ok-clause-answer g c =
    of_meaning
    (λ holds meaning. IsToldInAll (IsComparedOver (holds c.args.script.now) meaning (circuit_named c.args.other.now (holds c.args.other.now)))
    (RunsOutOverBoth (holds c.args.script.now) meaning (circuit_named c.args.other.now (holds c.args.other.now)))
    (g.S.Sink.written c.args.out) (g.S.Sink.written c.equiv_behind.result.0) (g.A.Analyst.analysed c.args.analyst.now)
    (g.A.Analyst.analysed c.equiv_behind.new.analyst) c.equiv_behind.result.1)
    (circuit_named c.args.one.now) (g.F.Files.holds c.args.files.now) (g.F.Files.holds c.read_named.new.files) c.args.one.now (Ok c.in-Ok-Ok.circuit)
    (means_as (circuit_named c.args.one.now) (g.F.Files.holds c.args.files.now) c.args.one.now
    c.in-Ok-Ok.field-0 (Ok c.in-Ok-Ok.circuit) c.in-Ok-Ok.field-0-is c.in-Ok-Ok.ensures.means)
    c.in-Ok-Ok.ensures.holds c.equiv_behind.ensures.told

pub returns-in-Ok-Ok-clause-started : goal.returns-in-Ok-Ok-clause-started
returns-in-Ok-Ok-clause-started g c =
    starts_next (g.F.Files.holds c.args.files.now) (g.F.Files.holds c.read_named.new.files) c.args.one.now (c.args.other.now ∷ []) c.args.script.now c.in-Ok-Ok.circuit
    (g.F.Files.started c.args.files.now) (g.F.Files.started c.read_named.new.files) (g.F.Files.started c.equiv_behind.new.files)
    (means_as (circuit_named c.args.one.now) (g.F.Files.holds c.args.files.now) c.args.one.now
    c.in-Ok-Ok.field-0 (Ok c.in-Ok-Ok.circuit) c.in-Ok-Ok.field-0-is c.in-Ok-Ok.ensures.means)
    c.in-Ok-Ok.ensures.holds c.in-Ok-Ok.ensures.started c.equiv_behind.ensures.started

pub returns-in-Ok-Ok-clause-whole : goal.returns-in-Ok-Ok-clause-whole
returns-in-Ok-Ok-clause-whole g c =
    at_each c.equiv_behind.result.1
    (λ ended after. whole_next (g.F.Files.holds c.args.files.now) (g.F.Files.holds c.read_named.new.files) c.args.one.now (c.args.other.now ∷ []) c.args.script.now
    c.in-Ok-Ok.circuit (g.F.Files.taken c.args.files.now) (g.F.Files.taken c.read_named.new.files) (g.F.Files.taken c.equiv_behind.new.files)
    (means_as (circuit_named c.args.one.now) (g.F.Files.holds c.args.files.now) c.args.one.now
    c.in-Ok-Ok.field-0 (Ok c.in-Ok-Ok.circuit) c.in-Ok-Ok.field-0-is c.in-Ok-Ok.ensures.means)
    c.in-Ok-Ok.ensures.holds c.in-Ok-Ok.ensures.whole after)
    c.equiv_behind.ensures.whole

pub returns-in-Ok-Ok-clause-taken : goal.returns-in-Ok-Ok-clause-taken
returns-in-Ok-Ok-clause-taken g c =
    files_both (g.F.Files.taken c.args.files.now) (g.F.Files.taken c.read_named.new.files) (g.F.Files.taken c.equiv_behind.new.files) _
    c.in-Ok-Ok.ensures.taken c.equiv_behind.ensures.taken

pub returns-in-Ok-Ok-clause-read : goal.returns-in-Ok-Ok-clause-read
returns-in-Ok-Ok-clause-read g c =
    c.equiv_behind.ensures.read ∙ ap (λ n. faults_read n c.equiv_behind.result.1) c.in-Ok-Ok.ensures.read

pub returns-in-Ok-Err-clause-answer : goal.returns-in-Ok-Err-clause-answer
returns-in-Ok-Err-clause-answer g c =
    let old = g.S.Sink.written c.args.out in
    let new = g.S.Sink.written c.refuse_in_all.result.0 in
    let asked = g.A.Analyst.analysed c.args.analyst.now in
    of_meaning
    (λ holds meaning. IsToldInAll (IsComparedOver (holds c.args.script.now) meaning (circuit_named c.args.other.now (holds c.args.other.now)))
    (RunsOutOverBoth (holds c.args.script.now) meaning (circuit_named c.args.other.now (holds c.args.other.now)))
    old new asked asked c.refuse_in_all.result.1)
    (circuit_named c.args.one.now) (g.F.Files.holds c.args.files.now) (g.F.Files.holds c.args.files.now) c.args.one.now (Err c.in-Ok-Err.refusal)
    (means_as (circuit_named c.args.one.now) (g.F.Files.holds c.args.files.now) c.args.one.now
    c.in-Ok-Err.field-0 (Err c.in-Ok-Err.refusal) c.in-Ok-Err.field-0-is c.in-Ok-Err.ensures.means)
    refl
    (at_known (g.F.Files.holds c.args.files.now)
    (λ holds. IsToldInAll (IsComparedOver (holds c.args.script.now) (Err c.in-Ok-Err.refusal) (circuit_named c.args.other.now (holds c.args.other.now)))
    (RunsOutOverBoth (holds c.args.script.now) (Err c.in-Ok-Err.refusal) (circuit_named c.args.other.now (holds c.args.other.now))) old new asked asked c.refuse_in_all.result.1)
    (λ holds. c.refuse_in_all.ensures.told asked))

pub returns-in-Ok-Err-clause-whole : goal.returns-in-Ok-Err-clause-whole
returns-in-Ok-Err-clause-whole g c =
    at_ok c.refuse_in_all.result.1
    (whole_last (g.F.Files.holds c.args.files.now) c.args.one.now (c.args.other.now ∷ []) c.args.script.now c.in-Ok-Err.refusal
    (g.F.Files.taken c.args.files.now) (g.F.Files.taken c.read_named.new.files)
    (means_as (circuit_named c.args.one.now) (g.F.Files.holds c.args.files.now) c.args.one.now
    c.in-Ok-Err.field-0 (Err c.in-Ok-Err.refusal) c.in-Ok-Err.field-0-is c.in-Ok-Err.ensures.means)
    c.in-Ok-Err.ensures.whole)

pub returns-in-Ok-Err-clause-started : goal.returns-in-Ok-Err-clause-started
returns-in-Ok-Err-clause-started g c = inl (inr c.in-Ok-Err.ensures.started)

pub returns-in-Ok-Err-clause-read : goal.returns-in-Ok-Err-clause-read
returns-in-Ok-Err-clause-read g c =
    c.in-Ok-Err.ensures.read ∙ read_none_in_all (g.F.Files.faults c.args.files.now) c.refuse_in_all.result.1 c.refuse_in_all.ensures.no_read

pub returns-in-Ok-Err-clause-untouched : goal.returns-in-Ok-Err-clause-untouched
returns-in-Ok-Err-clause-untouched g c =
    untouched_in_all (g.S.Sink.written c.args.out) (g.S.Sink.written c.refuse_in_all.result.0) c.refuse_in_all.result.1 c.refuse_in_all.ensures.no_read
