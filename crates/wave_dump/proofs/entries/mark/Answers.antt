-- What is listed at the node goes behind what was marked.
use Rattle.std.proofs.Common.{ℕ, List, ◌++◌, ◌∙◌, ap, arith}
use Rattle.wave_dump.proofs.EntryLemmas.{marks_listed}
use Rattle.wave_dump.proofs.entries.mark.Goals as goal

pub returns : goal.returns
returns c =
    marks_listed c.args.lists.now c.args.node c.args.marked.now.items c.extend_from_slice.new.self.items c.index-lists-node.result
    (omega (arith, c.if-node-lists.false)) c.index-lists-node.is
    (c.in_ok-extend_from_slice.ensures.items ∙ ap (λ (list : List ℕ). c.args.marked.now.items ++ list) c.all.ensures)
