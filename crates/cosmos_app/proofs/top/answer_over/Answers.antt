-- What was told of the circuit that was read, or of its refusal, is told of the netlist or the deck.
use Rattle.std.proofs.Common.{Ok, Err, ap, inl, inr, ◌∙◌}
use Rattle.ports.proofs.ResultLemmas.{at_ok}
use Rattle.ports.proofs.TakenLemmas.{files_both}
use Rattle.run_ends.specs.Ends.{IsToldBy}
use Rattle.run_ends.specs.Stops.{faults_read}
use Rattle.command_line.specs.Requests.{question_seen}
use Rattle.circuit_files.proofs.FeedingLemmas.{at_each}
use Rattle.cosmos_app.specs.Answers.{IsAnswerIn}
use Rattle.cosmos_app.specs.Named.{circuit_by, IsOverEither}
use Rattle.cosmos_app.proofs.NetLemmas.{means_as, of_meaning, told_refusal}
use Rattle.cosmos_app.proofs.StartLemmas.{starts_beside}
use Rattle.cosmos_app.proofs.WholeLemmas.{whole_beside, whole_refused}
use Rattle.cosmos_app.proofs.top.answer_over.Goals as goal

pub returns-in-Ok-clause-told : goal.returns-in-Ok-clause-told
returns-in-Ok-clause-told g c =
    of_meaning (λ holds meaning. IsToldBy (IsOverEither (IsAnswerIn (question_seen c.args.question) holds) meaning)
    c.args.out.now.page.written c.answer_in.new.out.page.written (g.A.Analyst.analysed c.args.analyst.now) (g.A.Analyst.analysed c.answer_in.new.analyst)
    c.answer_in.result) (circuit_by c.args.deck) (g.F.Files.holds c.args.files.now)
    (g.F.Files.holds c.read_by.new.files) c.args.name.now (Ok c.in-Ok.circuit)
    (means_as (circuit_by c.args.deck) (g.F.Files.holds c.args.files.now) c.args.name.now _ (Ok c.in-Ok.circuit) c.in-Ok.is c.in_ok-circuit.ensures.means)
    c.in_ok-circuit.ensures.holds c.answer_in.ensures.told

pub returns-in-Ok-clause-started : goal.returns-in-Ok-clause-started
returns-in-Ok-clause-started g c =
    starts_beside (circuit_by c.args.deck) (g.F.Files.holds c.args.files.now) c.args.name.now (question_seen c.args.question) c.in-Ok.circuit
    (g.F.Files.started c.args.files.now) (g.F.Files.started c.read_by.new.files) (g.F.Files.started c.answer_in.new.files)
    (means_as (circuit_by c.args.deck) (g.F.Files.holds c.args.files.now) c.args.name.now _ (Ok c.in-Ok.circuit) c.in-Ok.is c.in_ok-circuit.ensures.means)
    c.in_ok-circuit.ensures.started c.answer_in.ensures.started

pub returns-in-Ok-clause-whole : goal.returns-in-Ok-clause-whole
returns-in-Ok-clause-whole g c =
    at_each c.answer_in.result
    (λ ended after. whole_beside (circuit_by c.args.deck) (g.F.Files.holds c.args.files.now) (g.F.Files.holds c.read_by.new.files) c.args.name.now
    (question_seen c.args.question) c.in-Ok.circuit
    (g.F.Files.taken c.args.files.now) (g.F.Files.taken c.read_by.new.files) (g.F.Files.taken c.answer_in.new.files)
    (means_as (circuit_by c.args.deck) (g.F.Files.holds c.args.files.now) c.args.name.now _ (Ok c.in-Ok.circuit) c.in-Ok.is c.in_ok-circuit.ensures.means)
    c.in_ok-circuit.ensures.holds c.in_ok-circuit.ensures.whole after)
    c.answer_in.ensures.whole

pub returns-in-Ok-clause-taken : goal.returns-in-Ok-clause-taken
returns-in-Ok-clause-taken g c =
    files_both (g.F.Files.taken c.args.files.now) (g.F.Files.taken c.read_by.new.files) (g.F.Files.taken c.answer_in.new.files) _
    c.in_ok-circuit.ensures.taken c.answer_in.ensures.taken

pub returns-in-Ok-clause-read : goal.returns-in-Ok-clause-read
returns-in-Ok-clause-read g c =
    c.answer_in.ensures.read ∙ ap (λ n. faults_read n c.answer_in.result) c.in_ok-circuit.ensures.read

pub returns-clause-told : goal.returns-clause-told
returns-clause-told g c =
    told_refusal (λ holds. IsAnswerIn (question_seen c.args.question) holds) (circuit_by c.args.deck) (g.F.Files.holds c.args.files.now) c.args.name.now
    c.in-Err.refusal c.args.out.now.page.written c.refuse_circuit.new.out.page.written (g.A.Analyst.analysed c.args.analyst.now) c.refuse_circuit.result
    (means_as (circuit_by c.args.deck) (g.F.Files.holds c.args.files.now) c.args.name.now _ (Err c.in-Err.refusal) c.in-Err.is c.in_ok-circuit.ensures.means)
    c.refuse_circuit.ensures.told

pub returns-clause-whole : goal.returns-clause-whole
returns-clause-whole g c =
    at_ok c.refuse_circuit.result
    (whole_refused (circuit_by c.args.deck) (g.F.Files.holds c.args.files.now) c.args.name.now (question_seen c.args.question)
    c.in-Err.refusal (g.F.Files.taken c.args.files.now) (g.F.Files.taken c.read_by.new.files)
    (means_as (circuit_by c.args.deck) (g.F.Files.holds c.args.files.now) c.args.name.now _ (Err c.in-Err.refusal) c.in-Err.is c.in_ok-circuit.ensures.means)
    c.in_ok-circuit.ensures.whole)

pub returns-clause-started : goal.returns-clause-started
returns-clause-started g c =
    inl (inr c.in_ok-circuit.ensures.started)
