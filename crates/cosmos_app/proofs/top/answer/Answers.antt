-- What was told of the case of the request is told of the request; if no file is needed, none is started or read.
use Rattle.std.proofs.Common.{true, false, ◌+◌, sym, ap, ◌∙◌}
use Rattle.ports.proofs.ResultLemmas.{at_known, at_ok}
use Rattle.ports.proofs.TakenLemmas.{files_none}
use Rattle.line_words.specs.declared.files.TheConstants.{MOST_FILE_BYTES}
use Rattle.run_ends.proofs.EndLemmas.{read_none, untouched_none}
use Rattle.command_line.specs.Requests.{alone_seen, names_of, question_seen, request_of, request_seen}
use Rattle.cosmos_app.proofs.AskedLemmas.{told_request, starts_request, whole_request, starts_alone, files_alone}
use Rattle.cosmos_app.proofs.OverLemmas.{starts_over, told_over, whole_over}
use Rattle.cosmos_app.proofs.WholeLemmas.{whole_unasked}
use Rattle.cosmos_app.proofs.top.answer.Goals as goal

pub returns-in-About-clause-told : goal.returns-in-About-clause-told
returns-in-About-clause-told g c =
    told_request _ _ (sym (ap request_seen c.in-About.is) ∙ c.request_of.ensures) (g.F.Files.holds c.args.files.now) _ _ _ _ c.answer_over.result
    (told_over false c.in-About.net.now (question_seen c.in-About.question)
    (g.F.Files.holds c.args.files.now) _ _ _ _ c.answer_over.result c.answer_over.ensures.told)

pub returns-in-OverDeck-clause-told : goal.returns-in-OverDeck-clause-told
returns-in-OverDeck-clause-told g c =
    told_request _ _ (sym (ap request_seen c.in-OverDeck.is) ∙ c.request_of.ensures) (g.F.Files.holds c.args.files.now) _ _ _ _
    c.answer_over-in-OverDeck.result
    (told_over true c.in-OverDeck.deck.now (question_seen c.in-OverDeck.question)
    (g.F.Files.holds c.args.files.now) _ _ _ _ c.answer_over-in-OverDeck.result c.answer_over-in-OverDeck.ensures.told)

pub returns-in-About-clause-started : goal.returns-in-About-clause-started
returns-in-About-clause-started g c =
    starts_request _ _ (sym (ap request_seen c.in-About.is) ∙ c.request_of.ensures) (g.F.Files.holds c.args.files.now) _ _
    (starts_over false c.in-About.net.now (question_seen c.in-About.question) (g.F.Files.holds c.args.files.now) _ _ c.answer_over.ensures.started)

pub returns-in-OverDeck-clause-started : goal.returns-in-OverDeck-clause-started
returns-in-OverDeck-clause-started g c =
    starts_request _ _ (sym (ap request_seen c.in-OverDeck.is) ∙ c.request_of.ensures) (g.F.Files.holds c.args.files.now) _ _
    (starts_over true c.in-OverDeck.deck.now (question_seen c.in-OverDeck.question)
    (g.F.Files.holds c.args.files.now) _ _ c.answer_over-in-OverDeck.ensures.started)

pub returns-in-About-clause-whole : goal.returns-in-About-clause-whole
returns-in-About-clause-whole g c =
    whole_request _ _ (sym (ap request_seen c.in-About.is) ∙ c.request_of.ensures) (g.F.Files.holds c.args.files.now) _ _ _
    (whole_over false c.in-About.net.now (question_seen c.in-About.question)
    (g.F.Files.holds c.args.files.now) _ _ c.answer_over.result c.answer_over.ensures.whole)

pub returns-in-OverDeck-clause-whole : goal.returns-in-OverDeck-clause-whole
returns-in-OverDeck-clause-whole g c =
    whole_request _ _ (sym (ap request_seen c.in-OverDeck.is) ∙ c.request_of.ensures) (g.F.Files.holds c.args.files.now) _ _ _
    (whole_over true c.in-OverDeck.deck.now (question_seen c.in-OverDeck.question)
    (g.F.Files.holds c.args.files.now) _ _ c.answer_over-in-OverDeck.result c.answer_over-in-OverDeck.ensures.whole)

pub returns-in-Alone-clause-told : goal.returns-in-Alone-clause-told
returns-in-Alone-clause-told g c =
    told_request (alone_seen c.in-Alone.alone) (request_of (names_of c.args.words.now)) (sym (ap request_seen c.in-Alone.is) ∙ c.request_of.ensures)
    (g.F.Files.holds c.args.files.now) c.args.out.now.page.written c.answer_alone.new.out.page.written
    (g.A.Analyst.analysed c.args.analyst.now)
    (g.A.Analyst.analysed c.answer_alone.new.analyst) c.answer_alone.result
    (at_known (g.F.Files.holds c.args.files.now) _ c.answer_alone.ensures.told)

pub returns-in-Alone-clause-started : goal.returns-in-Alone-clause-started
returns-in-Alone-clause-started g c =
    starts_request (alone_seen c.in-Alone.alone) (request_of (names_of c.args.words.now)) (sym (ap request_seen c.in-Alone.is) ∙ c.request_of.ensures)
    (g.F.Files.holds c.args.files.now) (g.F.Files.started c.args.files.now) (g.F.Files.started c.args.files.now)
    (starts_alone c.in-Alone.alone (g.F.Files.holds c.args.files.now) (g.F.Files.started c.args.files.now))

pub returns-in-Alone-clause-taken : goal.returns-in-Alone-clause-taken
returns-in-Alone-clause-taken g c = files_none (g.F.Files.taken c.args.files.now) (MOST_FILE_BYTES + 1)

pub returns-in-Alone-clause-whole : goal.returns-in-Alone-clause-whole
returns-in-Alone-clause-whole g c =
    whole_request (alone_seen c.in-Alone.alone) (request_of (names_of c.args.words.now)) (sym (ap request_seen c.in-Alone.is) ∙ c.request_of.ensures)
    (g.F.Files.holds c.args.files.now) (g.F.Files.taken c.args.files.now) (g.F.Files.taken c.args.files.now) c.answer_alone.result
    (at_ok c.answer_alone.result
    (whole_unasked (g.F.Files.holds c.args.files.now) (alone_seen c.in-Alone.alone) (g.F.Files.taken c.args.files.now)
    (files_alone c.in-Alone.alone)))

pub returns-in-Alone-clause-read : goal.returns-in-Alone-clause-read
returns-in-Alone-clause-read g c = read_none (g.F.Files.faults c.args.files.now) c.answer_alone.result c.answer_alone.ensures.no_read

pub returns-in-Alone-clause-untouched : goal.returns-in-Alone-clause-untouched
returns-in-Alone-clause-untouched g c =
    untouched_none c.args.out.now c.answer_alone.new.out c.answer_alone.result c.answer_alone.ensures.no_read
