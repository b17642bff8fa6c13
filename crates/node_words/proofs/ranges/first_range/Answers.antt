use Rattle.std.proofs.Common.{sym, ap, ◌∙◌}
use Rattle.std.proofs.lemmas.List.{take_rest}
use Rattle.node_words.specs.Ranges.{range_at}
use Rattle.node_words.proofs.RangeLemmas.{scan-more}
use Rattle.node_words.proofs.ranges.first_range.Goals as goal

pub loop-at-preserved : goal.loop-at-preserved
loop-at-preserved c =
    let word = c.args.word.now in
    c.loop-at.invariant
    ∙ scan-more word c.loop-at.at c.loop-at-test.true (ap range_at (sym (take_rest word c.loop-at.at)) ∙ sym c.in-None.ensures)
