-- One name more.
use Rattle.std.proofs.Common.{◌++◌, ◌∷◌, [], ℕ, List, ap, sym, ◌∙◌}
use Rattle.symbol_lines.proofs.NameLemmas.{keys_of_next}
use Rattle.symbol_lines.proofs.names.names_in.Goals as goal

pub loop-place-preserved : goal.loop-place-preserved
loop-place-preserved c =
    c.in_ok-push.ensures.ok
    ∙ ap (λ (name : List ℕ). c.loop-place.list ++ name ∷ []) (c.in_ok-name.ensures ∙ c.deref.ensures.value)
    ∙ ap (λ (names : List (List ℕ)). names ++ c.in-Some.key.now.items ∷ []) c.loop-place.invariant
    ∙ sym (keys_of_next c.args.table.now.keys c.loop-place.place c.in-Some.key.now c.in-Some.ensures.key)
