-- A step keeps apart what differs. A node that differs afterwards was written by the good run and doesn't follow, or was written under the fault, or
-- differed before and stayed.
use Rattle.std.proofs.Common.{◌≡◌, ◌≢◌, ℕ, inl, inr, ◌⊎◌, false, List, ◌++◌, Option, Some, None, refl, sym, subst, ◌∙◌}
use Rattle.std.specs.Prelude.{Contains, Bool, slice_index_or}
use Rattle.std.proofs.lemmas.List.Elements.{Contains-append_left, Contains-append_right}
use Rattle.switch_paths.specs.Switching.{state_at}
use Rattle.part_words.specs.declared.change.Change.{Change}
use Rattle.machine_parts.specs.Marking.{IsMarked}
use Rattle.machine_parts.proofs.CaseLemmas.{true_or_not}
use Rattle.part_steps.proofs.TakingLemmas.{change_of}
use Rattle.run_beside.specs.Following.{FollowsAt}
use Rattle.run_beside.specs.Noticing.{IsConcerned, ConcernsSome, StepsKeepApart}

-- a node follows, or doesn't
pub follows_or_not : (owners : List (Option ℕ)) (apart : List Bool) (node : ℕ) → FollowsAt owners apart node ⊎ (¬ FollowsAt owners apart node)
follows_or_not owners apart node = by_owner (slice_index_or owners node None) refl
  where
    by_owner : (owner : Option ℕ) → slice_index_or owners node None ≡ owner → FollowsAt owners apart node ⊎ (¬ FollowsAt owners apart node)
    by_owner None is = inr (λ (k, owned, unmarked). absurd (cc (is, owned)))
    by_owner (Some k) is =
        elim (true_or_not (slice_index_or apart k false)) [
          | inl marked ↦ inr (λ (other, owned, unmarked).
              let same : k ≡ other = cc (is, owned) in
              unmarked (subst (IsMarked apart) same marked))
          | inr unmarked ↦ inl (k, is, unmarked)
        ]

pub steps_keep : StepsKeepApart
steps_keep owners readers apart new_apart changes own good good_next bad bad_mid bad_next kept in_good in_bad written noticed node differs k concerns =
    elim (change_of own node) [
      | inl (change, there, here) ↦ noticed.set k (concerns_here change (Contains-append_right changes own change there) here)
      | inr none_own ↦
          elim (change_of changes node) [
            | inr none ↦ noticed.stays k (kept node (λ same. differs (stayed none_own none same)) k concerns)
            | inl (change, there, here) ↦ noticed.set k (concerns_here change (Contains-append_left changes own change there) here)
          ]
    ]
  where
    concerns_here : (change : Change) → Contains (changes ++ own) change → change.node ≡ node → ConcernsSome (changes ++ own) owners readers good_next bad_next k
    concerns_here change there here = record {
      change = change;
      there = there;
      differs = subst (λ n. state_at bad_next n ≢ state_at good_next n) (sym here) differs;
      concerns = subst (λ n. IsConcerned owners readers n k) (sym here) concerns;
    }

    stayed : ((change : Change) → Contains own change → change.node ≢ node) → ((change : Change) → Contains changes change → change.node ≢ node) →
        state_at bad node ≡ state_at good node → state_at bad_next node ≡ state_at good_next node
    stayed none_own none same =
        written.stays node none_own ∙ (in_bad.stays node (λ change there asked. none change there) ∙ (same ∙ sym (in_good.stays node none)))
