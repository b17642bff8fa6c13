-- The first nodes are sorted, and each stands once.
use Rattle.std.proofs.Common.{◌≡◌, ℕ, ◌+◌, ◌⊎◌, List, [], ◌∷◌, ◌++◌, inl, inr, Option, Vec, Global, get_or, take, true, false, sym, ap, subst, ◌∙◌, arith}
use Rattle.std.specs.Prelude.{Contains}
use Rattle.std.proofs.lemmas.List.{take_all, take_more}
use Rattle.std.proofs.lemmas.List.Elements.{Contains-push, Contains-push_cases, Contains-append_left}
use Rattle.std.proofs.lemmas.List.Filters.{dedup_is}
use Rattle.std.proofs.lemmas.List.Kept.{Contains-dedup_nat, Contains-from_dedup}
use Rattle.std.proofs.lemmas.List.Sorted.{Contains-permutation, IsPermutation-sym}
use Rattle.std.proofs.lemmas.Map.Keys.{IsStrictlyIncreasing-dedup}
use Rattle.machine_parts.specs.Marking.{IsMarked}
use Rattle.machine_laws.specs.Finishing.{first_node}
use Rattle.vicinity.specs.Wides.{WideData}
use Rattle.unit_step.specs.Holding.{IsPassed}
use Rattle.unit_step.specs.Waking.{AddsUnlessPassed}
use Rattle.unit_step.proofs.waking.least_members.Goals as goal
use Rattle.unit_step.proofs.waking.least_members.Goals.{then-does_wait+in_ok-add_unless_passed, else-does_wait}

-- what comes unless it is passed over comes behind the others
added_stays : (large : ℕ) (wide : Option WideData) (node : ℕ) (old new : List ℕ) (n : ℕ) → AddsUnlessPassed large wide node old new →
    Contains old n → Contains new n
added_stays large wide node old new n (inl (same, passed)) there = subst (λ xs. Contains xs n) (sym same) there
added_stays large wide node old new n (inr pushed) there =
    subst (λ xs. Contains xs n) (sym pushed) (Contains-append_left old (node ∷ []) n there)

added_itself : (large : ℕ) (wide : Option WideData) (node : ℕ) (old new : List ℕ) → AddsUnlessPassed large wide node old new →
    Contains new node ⊎ IsPassed large wide node
added_itself large wide node old new (inl (same, passed)) = inr passed
added_itself large wide node old new (inr pushed) = inl (subst (λ xs. Contains xs node) (sym pushed) (Contains-push old node))

added_cases : (large : ℕ) (wide : Option WideData) (node : ℕ) (old new : List ℕ) (n : ℕ) → AddsUnlessPassed large wide node old new →
    Contains new n → Contains old n ⊎ (node ≡ n)
added_cases large wide node old new n (inl (same, passed)) there = inl (subst (λ xs. Contains xs n) same there)
added_cases large wide node old new n (inr pushed) there = Contains-push_cases old node n (subst (λ xs. Contains xs n) pushed there)

pub returns-clause-ascending : goal.returns-clause-ascending
returns-clause-ascending c =
    let is = dedup_is _ _ _ c.dedup.ensures.filtered in
    rw is (IsStrictlyIncreasing-dedup _ c.sort_unstable.ensures.sorted)

pub returns-clause-all : goal.returns-clause-all
returns-clause-all c = λ k waits.
    let f = first_node c.args.parts.now in
    let is = dedup_is _ _ _ c.dedup.ensures.filtered in
    let items = c.waiters-k-items.result.now in
    let all : take c.loop-k.k-index items ≡ items = take_all c.loop-k.k-index items (omega (arith, c.loop-k-test.false)) in
    elim (c.loop-k.invariant.all k (subst (λ xs. Contains xs k) (sym all) (c.waiters-k-items.ensures.all k waits)) waits) [
      | inl there ↦ inl (rw is (Contains-dedup_nat _ (f k) (Contains-permutation _ _ (f k) c.sort_unstable.ensures.permutation there)))
      | inr passed ↦ inr passed
    ]

pub returns-clause-only : goal.returns-clause-only
returns-clause-only c = λ node there.
    let is = dedup_is _ _ _ c.dedup.ensures.filtered in
    let sorted = Contains-from_dedup _ _ node (rw is at there) in
    c.loop-k.invariant.only node (Contains-permutation _ _ node (IsPermutation-sym _ _ c.sort_unstable.ensures.permutation) sorted)

pub loop-k-preserved : goal.loop-k-preserved
loop-k-preserved c =
    let items = c.waiters-k-items.result.now in
    let i = c.loop-k.k-index in
    let k = get_or items i 0 in
    let f = first_node c.args.parts.now in
    let waiting = c.args.agenda.now.waiting in
    let more : take (i + 1) items ≡ take i items ++ k ∷ [] = take_more items i 0 c.loop-k-test.true in
    elim c.if-does_wait.branch [
      | then-does_wait+in_ok-add_unless_passed w ↦
          let waits : IsMarked waiting k = sym c.does_wait.ensures ∙ w.if-does_wait.true in
          let now : List ℕ = c.if-does_wait.nodes.items in
          let nodes_are : now ≡ w.add_unless_passed.new.nodes.items = ap (λ (v : Vec ℕ Global). v.items) w.nodes-is in
          let added : AddsUnlessPassed c.args.large c.args.wide.now (f k) c.loop-k.nodes.items now =
          subst (AddsUnlessPassed c.args.large c.args.wide.now (f k) c.loop-k.nodes.items) (sym nodes_are)
          (subst (λ node. AddsUnlessPassed c.args.large c.args.wide.now node c.loop-k.nodes.items w.add_unless_passed.new.nodes.items) w.least_member.ensures
          w.in_ok-add_unless_passed.ensures) in
          record {
            all = λ l there marked.
                elim (Contains-push_cases (take i items) k l (subst (λ xs. Contains xs l) more there)) [
                  | inl before ↦
                      elim (c.loop-k.invariant.all l before marked) [
                        | inl among ↦ inl (added_stays _ _ _ _ _ (f l) added among)
                        | inr passed ↦ inr passed
                      ]
                  | inr same ↦ subst (λ n. Contains now (f n) ⊎ IsPassed c.args.large c.args.wide.now (f n)) same (added_itself _ _ _ _ _ added)
                ];
            only = λ node there.
                elim (added_cases _ _ _ _ _ node added there) [
                  | inl before ↦ c.loop-k.invariant.only node before
                  | inr same ↦ (k, waits, same)
                ];
          }
      | else-does_wait w ↦
          let same_nodes : c.if-does_wait.nodes.items ≡ c.loop-k.nodes.items = ap (λ (v : Vec ℕ Global). v.items) w.nodes-is in
          record {
            all = λ l there marked.
                subst (λ nodes. Contains nodes (f l) ⊎ IsPassed c.args.large c.args.wide.now (f l)) (sym same_nodes)
                (elim (Contains-push_cases (take i items) k l (subst (λ xs. Contains xs l) more there)) [
                  | inl before ↦ c.loop-k.invariant.all l before marked
                  | inr same ↦
                      let no : false ≡ true = sym w.if-does_wait.false ∙ (c.does_wait.ensures ∙ subst (IsMarked waiting) (sym same) marked) in
                      absurd cc
                ]);
            only = λ node there. c.loop-k.invariant.only node (subst (λ xs. Contains xs node) same_nodes there);
          }
    ]
