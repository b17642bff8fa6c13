-- What is read of the parts of a word is what the grammar gives the word.
use Rattle.std.proofs.Common.{sym, ap, ◌∙◌}
use Rattle.line_words.specs.Points.{is_point, thousandths_of}
use Rattle.line_words.proofs.CutLemmas.{IsCut-position, none_passes}
use Rattle.line_words.proofs.PointLemmas.{read_as_written, thousandths_of-cut, thousandths_of-whole}
use Rattle.line_words.proofs.points.thousandths.Goals as goal

pub returns-in-Some-clause-grammar : goal.returns-in-Some-clause-grammar
returns-in-Some-clause-grammar c =
    let word = c.args.word.now in
    let cut = IsCut-position is_point word c.in-Some.at (sym c.in-Some.ensures) in
    read_as_written (c.thousandths_by.ensures.value
    ∙ sym (ap thousandths_of cut.whole ∙ thousandths_of-cut _ _ cut.stop cut.none_before cut.passes))

pub returns-in-None-clause-grammar : goal.returns-in-None-clause-grammar
returns-in-None-clause-grammar c =
    read_as_written (c.thousandths_by-in-None.ensures.value
    ∙ sym (thousandths_of-whole c.args.word.now (none_passes is_point c.args.word.now (sym c.in-None.ensures))))
