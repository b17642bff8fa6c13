-- What was told of the circuit that was read, or of its refusal, is told of the name, and so is what was started and read.
use Rattle.std.proofs.Common.{Ok, Err, ap, inl, inr, ◌∙◌}
use Rattle.ports.proofs.ResultLemmas.{at_ok}
use Rattle.ports.proofs.TakenLemmas.{files_both}
use Rattle.run_ends.specs.Ends.{IsToldBy}
use Rattle.run_ends.specs.Stops.{faults_read}
use Rattle.command_line.specs.Decks.{is_deck_name}
use Rattle.command_line.specs.Requests.{Simulate}
use Rattle.circuit_files.proofs.FeedingLemmas.{at_each}
use Rattle.dump_run.specs.Dumped.{IsDumped}
use Rattle.cosmos_app.specs.Named.{circuit_by, IsOverEither}
use Rattle.cosmos_app.proofs.NetLemmas.{means_as, of_meaning, told_refusal}
use Rattle.cosmos_app.proofs.OverLemmas.{starts_over, whole_over}
use Rattle.cosmos_app.proofs.StartLemmas.{starts_beside}
use Rattle.cosmos_app.proofs.WholeLemmas.{whole_beside, whole_refused}
use Rattle.cosmos_app.proofs.dumping.dump_named.Goals as goal

pub returns-in-Ok-Ok-clause-told : goal.returns-in-Ok-Ok-clause-told
returns-in-Ok-Ok-clause-told g c =
    let known = g.F.Files.holds c.args.files.now in
    let meaning_of = circuit_by (is_deck_name c.args.net.now) in
    of_meaning (λ holds meaning. IsToldBy (IsOverEither (IsDumped (holds c.args.script.now)) meaning) (g.S.Sink.written c.args.out)
    (g.S.Sink.written c.dump_file.result.0) (g.A.Analyst.analysed c.args.analyst.now) (g.A.Analyst.analysed c.dump_file.new.analyst) c.dump_file.result.1)
    meaning_of known (g.F.Files.holds c.read_named.new.files) c.args.net.now (Ok c.in-Ok-Ok.circuit)
    (means_as meaning_of known c.args.net.now c.in-Ok-Ok.field-0 (Ok c.in-Ok-Ok.circuit) c.in-Ok-Ok.field-0-is c.in-Ok-Ok.ensures.means)
    c.in-Ok-Ok.ensures.holds c.dump_file.ensures.told

pub returns-in-Ok-Ok-clause-started : goal.returns-in-Ok-Ok-clause-started
returns-in-Ok-Ok-clause-started g c =
    let known = g.F.Files.holds c.args.files.now in
    let deck = is_deck_name c.args.net.now in
    starts_over deck c.args.net.now (Simulate c.args.script.now) known (g.F.Files.started c.args.files.now) (g.F.Files.started c.dump_file.new.files)
    (starts_beside (circuit_by deck) known c.args.net.now (Simulate c.args.script.now) c.in-Ok-Ok.circuit
    (g.F.Files.started c.args.files.now) (g.F.Files.started c.read_named.new.files) (g.F.Files.started c.dump_file.new.files)
    (means_as (circuit_by deck) known c.args.net.now c.in-Ok-Ok.field-0 (Ok c.in-Ok-Ok.circuit) c.in-Ok-Ok.field-0-is c.in-Ok-Ok.ensures.means)
    c.in-Ok-Ok.ensures.started c.dump_file.ensures.started)

pub returns-in-Ok-Ok-clause-whole : goal.returns-in-Ok-Ok-clause-whole
returns-in-Ok-Ok-clause-whole g c =
    let known = g.F.Files.holds c.args.files.now in
    let deck = is_deck_name c.args.net.now in
    whole_over deck c.args.net.now (Simulate c.args.script.now) known (g.F.Files.taken c.args.files.now) (g.F.Files.taken c.dump_file.new.files)
    c.dump_file.result.1
    (at_each c.dump_file.result.1
    (λ ended after. whole_beside (circuit_by deck) known (g.F.Files.holds c.read_named.new.files) c.args.net.now (Simulate c.args.script.now)
    c.in-Ok-Ok.circuit (g.F.Files.taken c.args.files.now) (g.F.Files.taken c.read_named.new.files) (g.F.Files.taken c.dump_file.new.files)
    (means_as (circuit_by deck) known c.args.net.now c.in-Ok-Ok.field-0 (Ok c.in-Ok-Ok.circuit) c.in-Ok-Ok.field-0-is c.in-Ok-Ok.ensures.means)
    c.in-Ok-Ok.ensures.holds c.in-Ok-Ok.ensures.whole after)
    c.dump_file.ensures.whole)

pub returns-in-Ok-Ok-clause-taken : goal.returns-in-Ok-Ok-clause-taken
returns-in-Ok-Ok-clause-taken g c =
    files_both (g.F.Files.taken c.args.files.now) (g.F.Files.taken c.read_named.new.files) (g.F.Files.taken c.dump_file.new.files) _
    c.in-Ok-Ok.ensures.taken c.dump_file.ensures.taken

pub returns-in-Ok-Ok-clause-read : goal.returns-in-Ok-Ok-clause-read
returns-in-Ok-Ok-clause-read g c =
    c.dump_file.ensures.read ∙ ap (λ n. faults_read n c.dump_file.result.1) c.in-Ok-Ok.ensures.read

pub returns-in-Ok-Err-clause-told : goal.returns-in-Ok-Err-clause-told
returns-in-Ok-Err-clause-told g c =
    let known = g.F.Files.holds c.args.files.now in
    let meaning_of = circuit_by (is_deck_name c.args.net.now) in
    told_refusal (λ holds. IsDumped (holds c.args.script.now)) meaning_of known c.args.net.now c.in-Ok-Err.refusal (g.S.Sink.written c.args.out)
    (g.S.Sink.written c.refuse_circuit-end.new.out) (g.A.Analyst.analysed c.args.analyst.now) c.refuse_circuit-end.result
    (means_as meaning_of known c.args.net.now c.in-Ok-Err.field-0 (Err c.in-Ok-Err.refusal) c.in-Ok-Err.field-0-is c.in-Ok-Err.ensures.means)
    c.refuse_circuit-end.ensures.told

pub returns-in-Ok-Err-clause-started : goal.returns-in-Ok-Err-clause-started
returns-in-Ok-Err-clause-started g c =
    starts_over (is_deck_name c.args.net.now) c.args.net.now (Simulate c.args.script.now) (g.F.Files.holds c.args.files.now)
    (g.F.Files.started c.args.files.now) (g.F.Files.started c.read_named.new.files) (inl (inr c.in-Ok-Err.ensures.started))

pub returns-in-Ok-Err-clause-whole : goal.returns-in-Ok-Err-clause-whole
returns-in-Ok-Err-clause-whole g c =
    let known = g.F.Files.holds c.args.files.now in
    let deck = is_deck_name c.args.net.now in
    whole_over deck c.args.net.now (Simulate c.args.script.now) known (g.F.Files.taken c.args.files.now) (g.F.Files.taken c.read_named.new.files)
    c.refuse_circuit-end.result
    (at_ok c.refuse_circuit-end.result
    (whole_refused (circuit_by deck) known c.args.net.now (Simulate c.args.script.now) c.in-Ok-Err.refusal
    (g.F.Files.taken c.args.files.now) (g.F.Files.taken c.read_named.new.files)
    (means_as (circuit_by deck) known c.args.net.now c.in-Ok-Err.field-0 (Err c.in-Ok-Err.refusal) c.in-Ok-Err.field-0-is c.in-Ok-Err.ensures.means)
    c.in-Ok-Err.ensures.whole))

pub returns-clause-started : goal.returns-clause-started
returns-clause-started g c =
    starts_over (is_deck_name c.args.net.now) c.args.net.now (Simulate c.args.script.now) (g.F.Files.holds c.args.files.now)
    (g.F.Files.started c.args.files.now) (g.F.Files.started c.read_named.new.files) (inl c.in-Err.ensures.started)
