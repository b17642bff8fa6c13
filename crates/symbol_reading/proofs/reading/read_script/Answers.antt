-- What was read line by line is what the lines mean.
use Rattle.std.proofs.Common.{◌∙◌, ap}
use Rattle.line_words.specs.Files as file
use Rattle.line_words.specs.Lines.{lines_of}
use Rattle.symbol_lines.specs.Names.{NamesData}
use Rattle.symbol_meaning.specs.Scripts.{asked_lines, usual_bound}
use Rattle.symbol_reading.specs.Reading.{rest_read}
use Rattle.symbol_reading.proofs.ReadingLemmas.{read_made, read_whole}
use Rattle.symbol_reading.proofs.reading.read_script.Goals as goal

pub returns : goal.returns
returns c =
    let cut = file.cut_line c.args.text.now in
    let lines = file.lines_in c.args.text.now in
    read_made c.in_ok-variables.variables c.read_lines.new.names c.read_lines.new.bound c.in_ok-stop.stop _ c.in_ok-variables.ensures
    (c.in_ok-stop.ensures
    ∙ ap (λ (d : NamesData). rest_read d usual_bound (asked_lines c.args.quiet cut lines)) c.new-names.ensures
    ∙ read_whole c.args.quiet cut (lines_of (file.front_of c.args.text.now)))
