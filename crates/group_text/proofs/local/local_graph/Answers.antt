-- One outside node more.
use Rattle.std.proofs.Common.{◌≡◌, ℕ, ◌+◌, ◌-◌, ◌≤◌, List, [], ◌∷◌, ◌++◌, length, map, ap, ◌∙◌, append_assoc, arith}
use Rattle.std.specs.Prelude.{replicate}
use Rattle.std.proofs.lemmas.List.{replicate_more}
use Rattle.strength_order.specs.declared.TheConstants.{INPUT_LEVEL}
use Rattle.switch_paths.specs.Graphs.{level_of}
use Rattle.group_text.proofs.local.local_graph.Goals as goal

-- behind a list of levels stands one more of the same
one_more : (levels : List ℕ) (level low k : ℕ) → low ≤ k →
    (levels ++ replicate (k - low) level) ++ level ∷ [] ≡ levels ++ replicate (k + 1 - low) level
one_more levels level low k above =
    let next : k - low + 1 ≡ k + 1 - low = omega arith in
    append_assoc levels (replicate (k - low) level) (level ∷ [])
    ∙ ap (λ tail. levels ++ tail) (replicate_more (k - low) level ∙ ap (λ count. replicate count level) next)

pub loop-outside-preserved : goal.loop-outside-preserved
loop-outside-preserved c =
    let more = one_more (map (level_of c.args.graph.now) c.args.members.now) INPUT_LEVEL
    (length c.args.members.now) c.loop-outside._outside (omega arith) in
    rw (c.in_ok-add_node-2.ensures.ok, c.loop-outside.invariant) (λ i. record { levels = more i; places = [] })
