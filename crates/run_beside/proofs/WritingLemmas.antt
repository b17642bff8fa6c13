-- The changes of a step are written one by one, those at asked nodes.
use Rattle.std.proofs.Common.{◌≡◌, ◌≢◌, ℕ, ◌+◌, ◌<◌, inl, inr, List, [], ◌∷◌, ◌++◌, length, take, get_or, sym, ap, subst, ◌∙◌}
use Rattle.std.specs.Prelude.{Contains, slice_set}
use Rattle.std.proofs.lemmas.Bool.{cases_eq}
use Rattle.std.proofs.lemmas.List.{get_or-set_same, get_or-set_other, length-set, take_more}
use Rattle.std.proofs.lemmas.List.Elements.{Contains-push, Contains-push_cases, Contains-append_left}
use Rattle.ternary.specs.declared.tern.Tern.{Tern}
use Rattle.ternary.specs.declared.tern.Tern.TheVariants.{Zero}
use Rattle.switch_paths.specs.Switching.{state_at}
use Rattle.part_words.specs.declared.change.Change.{Change}
use Rattle.machine_parts.specs.Running.{AreAgreed}
use Rattle.machine_parts.proofs.CaseLemmas.{same_or_not}
use Rattle.vicinity.proofs.SleepingNodes.{same_tern}
use Rattle.vicinity.proofs.TouchLemmas.{NoneTwice}
use Rattle.part_steps.proofs.TakingLemmas.{Contains-from_take}
use Rattle.run_beside.specs.Following.{IsWritten}

-- the same, if the nodes that are asked for are said otherwise
pub IsWritten-as : (Asked AskedToo : ℕ → Type 0) (changes : List Change) (old new : List Tern) → ((node : ℕ) → Asked node → AskedToo node) →
    ((node : ℕ) → AskedToo node → Asked node) → IsWritten Asked changes old new → IsWritten AskedToo changes old new
IsWritten-as Asked AskedToo changes old new to from written = record {
  count = written.count;
  taken = λ change there asked. written.taken change there (from change.node asked);
  stays = λ node none. written.stays node (λ change there asked. none change there (to change.node asked));
}

module _ (Asked : ℕ → Type 0) (changes : List Change) (i : ℕ) (change : Change) (old mid : List Tern) (inside : i < length changes)
    (is : change ≡ get_or changes i change) (so_far : IsWritten Asked (take i changes) old mid) where
  more : take (i + 1) changes ≡ take i changes ++ change ∷ []
  more = take_more changes i change inside ∙ ap (λ c. take i changes ++ c ∷ []) (sym is)

  among : (other : Change) → Contains (take i changes ++ change ∷ []) other → Contains changes other
  among other there = Contains-from_take (i + 1) changes other (subst (λ xs. Contains xs other) (sym more) there)

  -- a change at an asked node is written
  pub written : AreAgreed changes → Asked change.node → change.node < length mid →
      IsWritten Asked (take (i + 1) changes) old (slice_set mid change.node change.value)
  written agreed asked within = subst (λ xs. IsWritten Asked xs old (slice_set mid change.node change.value)) (sym more) (record {
    count = length-set mid change.node change.value ∙ so_far.count;
    taken = λ other there asked_other.
        elim (cases_eq other.node change.node) [
          | inl same ↦
              let value = agreed change other (among change (Contains-push (take i changes) change)) (among other there) (sym same) in
              ap (state_at (slice_set mid change.node change.value)) same ∙ (get_or-set_same mid change.node change.value Zero within ∙ value)
          | inr differs ↦
              elim (Contains-push_cases (take i changes) change other there) [
                | inl before ↦ get_or-set_other mid change.node other.node change.value Zero differs ∙ so_far.taken other before asked_other
                | inr same ↦ absurd (differs (ap (λ (c : Change). c.node) (sym same)))
              ]
        ];
    stays = λ node none.
        let differs : node ≢ change.node = λ same. none change (Contains-push (take i changes) change) asked (sym same) in
        get_or-set_other mid change.node node change.value Zero differs
        ∙ so_far.stays node (λ other before. none other (Contains-append_left (take i changes) (change ∷ []) other before));
  })

  -- one at another node isn't
  pub passed : ¬ Asked change.node → IsWritten Asked (take (i + 1) changes) old mid
  passed out = subst (λ xs. IsWritten Asked xs old mid) (sym more) (record {
    count = so_far.count;
    taken = λ other there asked.
        elim (Contains-push_cases (take i changes) change other there) [
          | inl before ↦ so_far.taken other before asked
          | inr same ↦ absurd (out (subst (λ (c : Change). Asked c.node) (sym same) asked))
        ];
    stays = λ node none. so_far.stays node (λ other before. none other (Contains-append_left (take i changes) (change ∷ []) other before));
  })

  -- and no node changes twice
  pub none_twice-written : AreAgreed changes → change.node < length mid → NoneTwice old mid (slice_set mid change.node change.value)
  none_twice-written agreed within node =
      elim (cases_eq node change.node) [
        | inr differs ↦ inr (get_or-set_other mid change.node node change.value Zero differs)
        | inl same ↦
            elim (same_or_not (state_at mid node) (state_at old node)) [
              | inl stays ↦ inl stays
              | inr changed ↦ inr (same_tern (state_at (slice_set mid change.node change.value) node) (state_at mid node) (λ differs.
                  changed (so_far.stays node (λ one there asked at_one.
                  let value : one.value ≡ change.value =
                  agreed one change (among one (Contains-append_left (take i changes) (change ∷ []) one there))
                  (among change (Contains-push (take i changes) change)) (at_one ∙ same) in
                  differs (ap (state_at (slice_set mid change.node change.value)) same ∙ (get_or-set_same mid change.node change.value Zero within
                  ∙ (sym value ∙ (sym (so_far.taken one there asked) ∙ ap (state_at mid) at_one))))))))
            ]
      ]
