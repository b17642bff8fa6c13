-- One count after the other.
use Rattle.std.proofs.Common.{◌∙◌}
use Rattle.state_cover.proofs.TextLemmas.{counts_chain}
use Rattle.state_cover.proofs.writing.put_counts.Goals as goal

pub returns : goal.returns
returns c =
    c.in_ok-extend_from_slice.ensures.items
    ∙ counts_chain c.args.line.now.items _ _ _ _ _ _ _ _ _ _ _ _ _ c.in_ok-put_count.ensures c.in_ok-put_count-2.ensures c.in_ok-put_count-3.ensures c.in_ok-put_count-4.ensures
