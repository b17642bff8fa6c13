-- One part more is listed if it waits and isn't among these.
use Rattle.std.proofs.Common.{◌≡◌, ℕ, ◌+◌, [], ◌∷◌, ◌++◌, inl, inr, get_or, take, sym, subst, arith}
use Rattle.std.specs.Prelude.{◌↔◌, Contains}
use Rattle.std.proofs.lemmas.List.{take_all, take_more}
use Rattle.std.proofs.lemmas.List.Elements.{Contains-push_cases}
use Rattle.std.proofs.lemmas.List.Sorted.{Contains-permutation, IsPermutation-sym, IsNonDecreasingBy-from_sort}
use Rattle.machine_parts.specs.Marking.{IsMarked}
use Rattle.unit_step.proofs.LongLemmas.{added, added_stays, added_itself}
use Rattle.unit_step.proofs.holding.others_waiting.Goals.{After-sort_unstable}
use Rattle.unit_step.proofs.holding.others_waiting.Goals as goal

pub waits_beside-requires-clause-ascending : goal.waits_beside-requires-clause-ascending
waits_beside-requires-clause-ascending c = rw c.deref.ensures.value (IsNonDecreasingBy-from_sort (λ x. x) _ c.sort_unstable.ensures.sorted)

-- just these are taken
taken_are : (c : After-sort_unstable) (k : ℕ) → Contains c.sort_unstable.new.self.items k ↔ Contains c.args.these.now k
taken_are c k = (
  λ there. subst (λ xs. Contains xs k) c.in_ok-taken.ensures.items
      (Contains-permutation _ _ k (IsPermutation-sym _ _ c.sort_unstable.ensures.permutation) there),
  λ there. Contains-permutation _ _ k c.sort_unstable.ensures.permutation
      (subst (λ xs. Contains xs k) (sym c.in_ok-taken.ensures.items) there),
)

pub loop-k-preserved : goal.loop-k-preserved
loop-k-preserved c =
    let at = (goal.at.loop-k-preserved c).After-sort_unstable in
    let items = c.waiters-k-items.result.now in
    let i = c.loop-k.k-index in
    let k = get_or items i 0 in
    let waiting = c.args.agenda.now.waiting in
    let old = c.loop-k.others.items in
    let new = c.add_if.new.list.items in
    let goes = c.waits_beside.result in
    let grown = c.in_ok-add_if.ensures in
    let asked = rw c.deref.ensures.value at c.waits_beside.ensures in
    let more : take (i + 1) items ≡ take i items ++ k ∷ [] = take_more items i 0 c.loop-k-test.true in
    record {
      only = λ n there.
          elim (added goes k old new n grown there) [
            | inl before ↦ c.loop-k.invariant.only n before
            | inr (is, same) ↦
                let (waits, other) = asked.0 is in
                subst (λ l. IsMarked waiting l × (¬ Contains c.args.these.now l)) same (waits, λ among. other ((taken_are at k).1 among))
          ];
      all = λ n there waits other.
          elim (Contains-push_cases (take i items) k n (subst (λ xs. Contains xs n) more there)) [
            | inl before ↦ added_stays goes k old new n grown (c.loop-k.invariant.all n before waits other)
            | inr same ↦
                let mine : IsMarked waiting k = subst (IsMarked waiting) (sym same) waits in
                let free : ¬ Contains c.sort_unstable.new.self.items k = λ is. other (subst (Contains c.args.these.now) same ((taken_are at k).0 is)) in
                subst (Contains new) same (added_itself goes k old new grown (asked.1 (mine, free)))
          ];
    }

pub returns : goal.returns
returns c = λ k. (
  c.loop-k.invariant.only k,
  λ goes.
      let items = c.waiters-k-items.result.now in
      let all : take c.loop-k.k-index items ≡ items = take_all c.loop-k.k-index items (omega (arith, c.loop-k-test.false)) in
      c.loop-k.invariant.all k (subst (λ xs. Contains xs k) (sym all) (c.waiters-k-items.ensures.all k goes.0)) goes.0 goes.1,
)
