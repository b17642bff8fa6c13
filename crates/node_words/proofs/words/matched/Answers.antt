use Rattle.std.proofs.Common.{ℕ, ◌<◌, false, length, Vec, sym, ap, ◌∙◌, arith}
use Rattle.std.specs.declared.alloc.Global.{Global}
use Rattle.std.proofs.lemmas.List.{get_or_read}
use Rattle.node_words.specs.Words.{has_match}
use Rattle.node_words.proofs.WordLemmas.{matched-passes, matched-takes}
use Rattle.node_words.proofs.words.matched.Goals as goal
use Rattle.node_words.proofs.words.matched.Goals.{then-index+in_ok-append, else-index}

pub loop-node-preserved : goal.loop-node-preserved
loop-node-preserved c =
    let marks = c.in_ok-marks.marks in
    let node = c.loop-node.node in
    let inside : node < length marks.items = omega (arith, marks.ok.0, c.len-node-end.ensures, c.loop-node-test.true) in
    let marked = get_or_read marks.items node c.index.result.now inside c.index.ensures false ∙ c.in_ok-marks.ensures.each node (omega (arith, c.in_ok-marks.ensures.long, inside)) in
    elim c.if-index.branch [
      | then-index+in_ok-append w ↦
          matched-takes _ c.loop-node.list.items c.if-index.list.items (has_match c.args.circuit.now.names c.args.pattern.now) node (length marks.items)
          c.loop-node.invariant inside (sym marked ∙ w.if-index.true) (ap (λ (list : Vec ℕ Global). list.items) w.list-is ∙ w.in_ok-append.ensures)
      | else-index w ↦
          matched-passes _ c.loop-node.list.items c.if-index.list.items (has_match c.args.circuit.now.names c.args.pattern.now) node (length marks.items)
          c.loop-node.invariant inside (sym marked ∙ w.if-index.false) (ap (λ (list : Vec ℕ Global). list.items) w.list-is)
    ]
