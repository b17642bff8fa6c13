use Rattle.std.proofs.Common.{◌≡◌, ℕ, List, [], ◌∷◌, ◌++◌, Bool, true, false, Vec, length, take, sym, subst, ◌∙◌, arith}
use Rattle.std.specs.declared.alloc.Global.{Global}
use Rattle.switch_paths.specs.Graphs.{nodes}
use Rattle.netlist.proofs.NamingLemmas.{take-one_more}
use Rattle.node_words.specs.Words.{AreMarks}
use Rattle.node_words.proofs.WordLemmas.{AreMarks-more}
use Rattle.node_words.proofs.words.marked.Goals as goal
use Rattle.node_words.proofs.words.marked.Goals.{then-is_marked, else-is_marked}

-- the marks of one name more
pub loop-place-preserved : goal.loop-place-preserved
loop-place-preserved c =
    let names = c.args.circuit.now.names in
    let count = nodes c.args.circuit.now.graph in
    let marks = c.loop-place.marks in
    let name = c.name_at-node.result.0.now in
    let node = c.name_at-node.result.1 in
    let more = take-one_more names c.loop-place.place (name, node) c.name_at-node.ensures in
    let long : c.len.result ≡ length marks.items = omega (arith, c.len.ensures, marks.ok.0) in
    subst (λ (front : List (List ℕ × ℕ)). AreMarks front c.args.pattern.now count c.if-is_marked.marks.items) (sym more)
    (elim c.if-is_marked.branch [
      | then-is_marked w ↦
          subst (λ (made : Vec Bool Global). AreMarks (take c.loop-place.place names ++ (name, node) ∷ []) c.args.pattern.now count made.items) (sym w.marks-is)
          (AreMarks-more (take c.loop-place.place names) c.args.pattern.now count c.len.result marks.items name node true c.loop-place.invariant long
          (sym w.if-is_marked.true ∙ c.is_marked.ensures.value))
      | else-is_marked w ↦
          subst (λ (made : Vec Bool Global). AreMarks (take c.loop-place.place names ++ (name, node) ∷ []) c.args.pattern.now count made.items) (sym w.marks-is)
          (AreMarks-more (take c.loop-place.place names) c.args.pattern.now count c.len.result marks.items name node false c.loop-place.invariant long
          (sym w.if-is_marked.false ∙ c.is_marked.ensures.value))
    ])
