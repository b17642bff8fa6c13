use Rattle.std.proofs.Common.{◌∙◌, sym, ap}
use Rattle.line_words.specs.Lines.{lines_of}
use Rattle.line_words.proofs.FileLemmas.{last_number, last_number-from_one}
use Rattle.line_words.proofs.files.last_line.Goals as goal

pub loop-line-init : goal.loop-line-init
loop-line-init c =
    ap (last_number 0) (c.into_iter-line-iterator.ensures.into_iter_gives ∙ c.lines-line-items.ensures.numbered)
    ∙ last_number-from_one (lines_of c.args.text.now)

pub loop-line-preserved : goal.loop-line-preserved
loop-line-preserved c = ap (last_number c.loop-line.last) (sym c.in-Some.ensures.steps) ∙ c.loop-line.invariant

pub returns : goal.returns
returns c = ap (last_number c.loop-line.last) (sym c.in-None.ensures.steps.0) ∙ c.loop-line.invariant
