-- Replacements that end in a state which the next one leaves are a settling: those that change nothing are left out.
use Rattle.std.proofs.Common.{◌≡◌, ◌≢◌, ℕ, zero, suc, ◌+◌, ◌-◌, ◌<◌, ◌≤◌, ◌↔◌, inl, inr, ◌⊎◌, Bool, true, false, IsTrue, List, length, refl, sym, ap, subst, ◌∙◌, arith, rules}
use Rattle.ternary.specs.declared.tern.Tern.{Tern}
use Rattle.switch_paths.specs.Switching.{state_at}
use Rattle.switch_paths.specs.Graphs.{GraphData, nodes}
use Rattle.switch_paths.specs.Step.{IsStep}
use Rattle.switch_paths.proofs.UniqueSteps.{unique}
use Rattle.settling.specs.Settling.{Stepping, IsJoinStep, Joining}
use Rattle.settling.proofs.SettlingLemmas.{Joining-steady}
use Rattle.settling.proofs.KnownStates.{same_or_somewhere}
use Rattle.run_beside.specs.Replacing.{Replaces, IsAtEnd, ReplacedStatesSettle}
use Rattle.run_beside.proofs.RestingRuns.{joining_ends}

-- two lists of as many states are one list, or not
same_or_not : (old new : List Tern) → length new ≡ length old → (new ≡ old) ⊎ (new ≢ old)
same_or_not old new counted =
    elim (same_or_somewhere old new counted) [ inl same ↦ inl same | inr (node, inside, apart) ↦ inr (λ same. apart (ap (λ states. state_at states node) same)) ]

-- plain replacements and then joining ones that end here, at most so many
record Ends (g : GraphData) (left count : ℕ) (old new : List Tern) : Type 0 where
  first : ℕ
  second : ℕ
  mid : List Tern
  stepping : Stepping g left old first mid
  joining : Joining g mid second new
  most : first + second ≤ count

-- at a state at rest plain replacements end at once
stepping_ends : (g : GraphData) (left : ℕ) (old : List Tern) (first : ℕ) (mid : List Tern) → IsStep g old old → Stepping g left old first mid →
    (first ≡ 0) × (mid ≡ old)
stepping_ends g zero old first mid step stepping = stepping
stepping_ends g (suc left) old first mid step stepping =
    elim stepping.2 [ inl (same, none, is) ↦ (none, is) | inr (moves, rest) ↦ absurd (moves (unique g old stepping.0 old stepping.1 step)) ]

-- a state at rest ends at once
rests_here : (g : GraphData) (left count : ℕ) (old : List Tern) → IsStep g old old → Ends g (suc left) count old old
rests_here g left count old step = record {
  first = 0;
  second = 0;
  mid = old;
  stepping = (old, step, inl (refl, refl, refl));
  joining = Joining-steady g old step;
  most = omega arith;
}

-- one joining step more in front
joins_more : (g : GraphData) (count : ℕ) (old next new : List Tern) → IsJoinStep g old next → length next ≡ length old → Ends g zero count next new →
    Ends g zero (suc count) old new
joins_more g count old next new step counted ends =
    let from : Joining g next ends.second new = subst (λ state. Joining g state ends.second new) ends.stepping.1 ends.joining in
    elim (same_or_not old next counted) [
      | inl same ↦ record {
        first = 0;
        second = ends.second;
        mid = old;
        stepping = (refl, refl);
        joining = subst (λ state. Joining g state ends.second new) same from;
        most = omega (arith, ends.most);
      }
      | inr moves ↦ record {
        first = 0;
        second = suc ends.second;
        mid = old;
        stepping = (refl, refl);
        joining = (next, step, moves, from);
        most = omega (arith, ends.most);
      }
    ]

-- one plain step more in front
steps_more : (g : GraphData) (left count : ℕ) (old next new : List Tern) → IsStep g old next → length next ≡ length old → Ends g left count next new →
    Ends g (suc left) (suc count) old new
steps_more g left count old next new step counted ends =
    elim (same_or_not old next counted) [
      | inl same ↦
          let rest : IsStep g old old = subst (IsStep g old) same step in
          let (none, is) = stepping_ends g left old ends.first ends.mid rest (subst (λ state. Stepping g left state ends.first ends.mid) same ends.stepping) in
          let stays = joining_ends g old ends.second new rest (subst (λ state. Joining g state ends.second new) is ends.joining) in
          subst (Ends g (suc left) (suc count) old) (sym stays) (rests_here g left (suc count) old rest)
      | inr moves ↦ record {
        first = ends.first + 1;
        second = ends.second;
        mid = ends.mid;
        stepping = (next, step, inr (moves, (ends.first, refl, ends.stepping)));
        joining = ends.joining;
        most = omega (arith, ends.most);
      }
    ]

ends_so : (g : GraphData) (left count : ℕ) (old new : List Tern) → length old ≡ nodes g → Replaces g left count old new →
    IsAtEnd g (left - count) new → Ends g left count old new
ends_so g zero zero old new counted replaces end =
    record { first = 0; second = 0; mid = old; stepping = (refl, refl); joining = (subst (λ state. IsJoinStep g state state) replaces end, replaces); most = omega arith }
ends_so g zero (suc count) old new counted replaces end =
    let next = replaces.0 in
    let same : length next ≡ length old = replaces.1.joins.left in
    joins_more g count old next new replaces.1 same
    (ends_so g zero count next new (same ∙ counted) replaces.2 (subst (λ left. IsAtEnd g left new) none end))
  where
    none : 0 - suc count ≡ 0 - count
    none = omega arith
ends_so g (suc left) zero old new counted replaces end =
    let rest : IsStep g new new = subst (λ more. IsAtEnd g more new) all end in
    subst (Ends g (suc left) zero old) (sym replaces) (rests_here g left zero old (subst (λ state. IsStep g state state) replaces rest))
  where
    all : suc left - 0 ≡ suc left
    all = omega arith
ends_so g (suc left) (suc count) old new counted replaces end =
    let next = replaces.0 in
    let same : length next ≡ length old = replaces.1.count ∙ sym counted in
    steps_more g left count old next new replaces.1 same
    (ends_so g left count next new replaces.1.count replaces.2 (subst (λ more. IsAtEnd g more new) one_less end))
  where
    one_less : suc left - suc count ≡ left - count
    one_less = omega arith

-- whether there was a joining step
was_joined : (second : ℕ) → (joined : Bool) × (IsTrue joined ↔ (0 < second))
was_joined zero = (false, search rules)
was_joined (suc second) = (true, search rules)

pub replaced_settles : ReplacedStatesSettle
replaced_settles g old limit count new counted replaces end =
    let ends = ends_so g limit count old new counted replaces end in
    let (joined, is) = was_joined ends.second in (
      ends.first + ends.second,
      joined,
      ends.most,
      record {
        first = ends.first;
        second = ends.second;
        mid = ends.mid;
        stepping = ends.stepping;
        joining = ends.joining;
        total = refl;
        was_joined = is;
      },
    )
