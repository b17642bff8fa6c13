-- Functions that were moved stay so when vertices are added, and a branch over moved functions is moved.
use Rattle.std.proofs.Common.{◌≡◌, ◌≢◌, ℕ, ◌<◌, ◌⊎◌, Bool, List, [], ◌∷◌, ◌++◌, ◌+◌, length, Option, Some, None, slice_set, get_or, get_or-set_same, get_or-set_other, sym, ap, ◌∙◌, subst, ⊎_elim, if◌then◌else◌, arith}
use Rattle.std.proofs.lemmas.List.{length-set, length_push, get_or_append_left, get_or_at}
use Rattle.decision_graph.specs.declared.vertex.Vertex.{Vertex}
use Rattle.decision_graph.specs.declared.vertex.Function.{Function}
use Rattle.decision_graph.specs.Vertices.{level_at, Extends}
use Rattle.decision_graph.specs.Meaning.{holds}
use Rattle.decision_graph.specs.Making.{IsChosen}
use Rattle.decision_graph.specs.Moving.{IsMoved, AreMoved, AreFound}
use Rattle.decision_graph.proofs.ValueLemmas.{holds-extends}
use Rattle.decision_graph.proofs.VertexLemmas.{level-extends}

-- a moved function stays so
pub IsMoved-extends : (variables : ℕ) (old new next : List Vertex) (i r : ℕ) → Extends new next → IsMoved variables old new i r → IsMoved variables old next i r
IsMoved-extends variables old new next i r extends moved = record {
  inside = omega (arith, moved.inside, extends.longer);
  value_is = λ vars. holds-extends new next vars r extends moved.inside ∙ moved.value_is vars;
  later = rw (level-extends variables new next r extends moved.inside) moved.later;
}

-- all do
pub AreMoved-extends : (variables : ℕ) (old new next : List Vertex) (moved : List (Option Function)) → Extends new next → AreMoved variables old new moved
    → AreMoved variables old next moved
AreMoved-extends variables old new next moved extends all = record {
  count = all.count;
  each = λ i r there. IsMoved-extends variables old new next i r.place extends (all.each i r there);
}

-- and one more
pub AreMoved-noted : (variables : ℕ) (old new : List Vertex) (moved : List (Option Function)) (i : ℕ) (made : Function) → i < length moved → AreMoved variables old new moved
    → IsMoved variables old new i made.place → AreMoved variables old new (slice_set moved i (Some made))
AreMoved-noted variables old new moved i made room all is = record {
  count = length-set moved i (Some made) ∙ all.count;
  each = λ j r there. ⊎_elim
      (λ (here : j ≡ i).
      let made_is : Some made ≡ Some r = sym (get_or-set_same moved i (Some made) None room) ∙ ap (λ k. get_or (slice_set moved i (Some made)) k None) (sym here) ∙ there in
      let same : made ≡ r = cc in
      subst (λ k. IsMoved variables old new k r.place) (sym here) (subst (λ (f : Function). IsMoved variables old new i f.place) same is))
      (λ (other : j ≢ i). all.each j r (sym (get_or-set_other moved i j (Some made) None other) ∙ there))
      (either j i);
}
  where
    either : (m n : ℕ) → (m ≡ n) ⊎ (m ≢ n)
    either m n = grind arith

-- a branch over moved functions is moved
pub IsMoved-chosen : (variables : ℕ) (old mid next last : List Vertex) (i v high low new_high new_low made : ℕ) → Extends mid next → Extends next last
    → level_at variables old i ≡ v
    → ((vars : ℕ → Bool) → holds old vars i ≡ (if vars v then holds old vars high else holds old vars low))
    → IsMoved variables old mid high new_high → IsMoved variables old next low new_low → IsChosen variables last v new_high new_low made
    → IsMoved variables old last i made
IsMoved-chosen variables old mid next last i v high low new_high new_low made first second level value on_high on_low chosen = record {
  inside = chosen.inside;
  value_is = λ vars.
      let high_is : holds last vars new_high ≡ holds old vars high =
      holds-extends next last vars new_high second (omega (arith, first.longer, on_high.inside)) ∙ holds-extends mid next vars new_high first on_high.inside ∙ on_high.value_is vars in
      let low_is : holds last vars new_low ≡ holds old vars low = holds-extends next last vars new_low second on_low.inside ∙ on_low.value_is vars in
      chosen.value_is vars
      ∙ ap (λ x. if vars v then x else holds last vars new_low) high_is
      ∙ ap (λ x. if vars v then holds old vars high else x) low_is
      ∙ sym (value vars);
  later = omega (arith, chosen.later, level);
}

-- one more root is found
pub AreFound-push : (variables : ℕ) (old mid new : List Vertex) (roots found : List Function) (root r : Function) → Extends mid new → AreFound old roots mid found
    → IsMoved variables old new root.place r.place → AreFound old (roots ++ root ∷ []) new (found ++ r ∷ [])
AreFound-push variables old mid new roots found root r extends all moved = record {
  count = omega (arith, all.count, length_push roots root, length_push found r);
  each = λ k past inside. ⊎_elim
      (λ (less : k < length roots).
      let kept = all.each k past less in
      let there : k < length found = omega (arith, all.count) in
      rw (get_or_append_left roots (root ∷ []) past k less, get_or_append_left found (r ∷ []) past k there)
      (record {
        inside = omega (arith, extends.longer, kept.inside);
        value_is = λ vars. holds-extends mid new vars (get_or found k past).place extends kept.inside ∙ kept.value_is vars;
      }))
      (λ (last : k ≡ length roots).
      rw (get_or_at roots root [] past k (sym last), get_or_at found r [] past k (all.count ∙ sym last))
      (record { inside = moved.inside; value_is = moved.value_is }))
      (either k (length roots) (omega (arith, length_push roots root)));
}
  where
    either : (m n : ℕ) → m < n + 1 → (m < n) ⊎ (m ≡ n)
    either m n less = grind arith
