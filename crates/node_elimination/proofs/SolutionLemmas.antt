-- Elimination keeps the least solution, over truth values.
use Rattle.std.proofs.Common.{◌≡◌, ◌≢◌, ℕ, Bool, true, false, not, ◌&&◌, ◌||◌, ◌==◌, ◌⊎◌, refl, sym, ap, ◌∙◌, inl, inr}
use Rattle.std.proofs.lemmas.Bool.{cases_eq, ne_eqb}
use Rattle.node_elimination.specs.Solution.{Sol, without, edge_past, right_past}
use Rattle.node_elimination.specs.Solution.Sol.{begins, follows}
use Rattle.node_elimination.specs.Laws.{EliminationKeepsTheSolution}

-- a disjunction is true where its first part is
pub or_first : (a b : Bool) → a ≡ true → (a || b) ≡ true
or_first true b first = refl
or_first false b first = absurd cc

-- and where its second part is
pub or_second : (a b : Bool) → b ≡ true → (a || b) ≡ true
or_second true b second = refl
or_second false b second = second

-- and nowhere else
pub or_either : (a b : Bool) → (a || b) ≡ true → (a ≡ true) ⊎ (b ≡ true)
or_either true b either = inl refl
or_either false b either = inr either

-- a conjunction is true if both parts are
pub and_both : (a b : Bool) → a ≡ true → b ≡ true → (a && b) ≡ true
and_both true b first second = second
and_both false b first second = absurd cc

-- and nowhere else
pub both_parts : (a b : Bool) → (a && b) ≡ true → (a ≡ true) × (b ≡ true)
both_parts true b both = (refl, both)
both_parts false b both = absurd cc

-- what is left beside k is left
pub without-left : (left : ℕ → Bool) (k i : ℕ) → without left k i ≡ true → left i ≡ true
without-left left k i beside = (both_parts (left i) (not (i == k)) beside).0

-- and is all that is left and isn't k
pub left-without : (left : ℕ → Bool) (k i : ℕ) → left i ≡ true → i ≢ k → without left k i ≡ true
left-without left k i stays other = and_both (left i) (not (i == k)) stays (ap not (ne_eqb i k other))

-- where each edge and each right side that is true is true in another system as well, so is each unknown
pub Sol-along : (left other_left : ℕ → Bool) (edge other_edge : ℕ → ℕ → Bool) (right other_right : ℕ → Bool) →
    ((i : ℕ) → left i ≡ true → other_left i ≡ true) →
    ((i j : ℕ) → left i ≡ true → left j ≡ true → edge i j ≡ true → other_edge i j ≡ true) →
    ((i : ℕ) → left i ≡ true → right i ≡ true → other_right i ≡ true) →
    (i : ℕ) → left i ≡ true → Sol left edge right i → Sol other_left other_edge other_right i
Sol-along left other_left edge other_edge right other_right lefts edges rights i stays (begins set) =
    begins (rights i stays set)
Sol-along left other_left edge other_edge right other_right lefts edges rights i stays (follows j next_stays joined sol) =
    follows j (lefts j next_stays) (edges i j stays next_stays joined)
    (Sol-along left other_left edge other_edge right other_right lefts edges rights j next_stays sol)

module _ (left : ℕ → Bool) (edge : ℕ → ℕ → Bool) (right : ℕ → Bool) (k : ℕ) where
  -- in the system without k
  abbrev Past : ℕ → Type 0
  Past i = Sol (without left k) (edge_past edge k) (right_past edge right k) i

  -- what is known of a true unknown: it is true without k, and if it is k, so is each unknown with an edge to it
  record IsKept (m : ℕ) : Type 0 where
    itself : Past m
    through : m ≡ k → (i : ℕ) → edge i k ≡ true → Past i

  kept : (m : ℕ) → Sol left edge right m → IsKept m
  kept m (begins set) = record {
    itself = begins (or_first (right m) (edge m k && right k) set);
    through = λ same i to_k.
        begins (or_second (right i) (edge i k && right k) (and_both (edge i k) (right k) to_k (sym (ap right same) ∙ set)));
  }
  kept m (follows j stays joined sol) =
      let rest : IsKept j = kept j sol in
      elim (cases_eq j k) [
        | inl last ↦ record {
          itself = rest.through last m (sym (ap (edge m) last) ∙ joined);
          through = λ same i to_k. rest.through last i to_k;
        }
        | inr other ↦
            let beside : without left k j ≡ true = left-without left k j stays other in
            record {
              itself = follows j beside (or_first (edge m j) (edge m k && edge k j) joined) rest.itself;
              through = λ same i to_k.
                  follows j beside
                  (or_second (edge i j) (edge i k && edge k j)
                  (and_both (edge i k) (edge k j) to_k (sym (ap (λ n. edge n j) same) ∙ joined)))
                  rest.itself;
            }
      ]

  -- what is true without k is true
  back : left k ≡ true → (m : ℕ) → Past m → Sol left edge right m
  back stays m (begins set) =
      elim (or_either (right m) (edge m k && right k) set) [
        | inl own ↦ begins own
        | inr by_k ↦ let parts = both_parts (edge m k) (right k) by_k in follows k stays parts.0 (begins parts.1)
      ]
  back stays m (follows j beside joined past) =
      let sol : Sol left edge right j = back stays j past in
      let next : left j ≡ true = without-left left k j beside in
      elim (or_either (edge m j) (edge m k && edge k j) joined) [
        | inl own ↦ follows j next own sol
        | inr by_k ↦ let parts = both_parts (edge m k) (edge k j) by_k in
            follows k stays parts.0 (follows j next parts.1 sol)
      ]

-- without k, the edges and right sides past k have the same least solution
pub elimination_keeps : EliminationKeepsTheSolution
elimination_keeps left edge right k i stays =
    ((λ sol. (kept left edge right k i sol).itself), (λ past. back left edge right k stays i past))
