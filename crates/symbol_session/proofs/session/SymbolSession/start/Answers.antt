-- A fault at the start is at a line that is obeyed, and the text is the script's.
use Rattle.std.proofs.Common.{ℕ, List, sym, ap, ◌∙◌}
use Rattle.line_words.specs.Files as file
use Rattle.symbol_meaning.specs.Scripts.{read_of, variables_of}
use Rattle.symbol_session.proofs.StartLemmas.{among_fault, start_serves, start_valuations, unwritten_fault}
use Rattle.symbol_session.proofs.session.SymbolSession.start.Goals as goal

pub begin-requires-clause-variables : goal.begin-requires-clause-variables
begin-requires-clause-variables c =
    c.requires.variables
    ∙ ap (λ (text : List ℕ). variables_of (read_of c.args.quiet (file.cut_line text) (file.lines_in text))) (sym c.of-script.ensures)

pub returns-clause-valuations : goal.returns-clause-valuations
returns-clause-valuations c =
    start_valuations c.args.quiet c.of-script.result.text c.args.text.now c.of-script.ensures c.begin.result c.begin.ensures.quiet c.begin.ensures.text

pub returns-clause-serves : goal.returns-clause-serves
returns-clause-serves c =
    start_serves c.args.quiet c.of-script.result.text c.args.text.now c.of-script.ensures c.begin.result c.begin.ensures.quiet c.begin.ensures.text
    c.begin.ensures.serves

pub returns-clause-among : goal.returns-clause-among
returns-clause-among c =
    among_fault c.args.quiet c.args.text.now c.args.variables.now c.begin.result c.requires.variables c.begin.ensures.own c.begin.ensures.some

pub returns-clause-unwritten : goal.returns-clause-unwritten
returns-clause-unwritten c = unwritten_fault 1 c.begin.result c.begin.ensures.own
