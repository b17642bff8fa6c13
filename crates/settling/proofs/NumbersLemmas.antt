-- Numbers upwards by one: how many they are, which one stands where, and that all below the end are among them.
use Rattle.std.proofs.Common.{◌≡◌, ℕ, Bool, zero, suc, ◌+◌, ◌<◌, List, [], ◌∷◌, length, refl, arith, ◌∙◌, ap, subst}
use Rattle.std.specs.Prelude.{Contains, slice_index_or}
use Rattle.std.specs.Bool.{OnTrue}
use Rattle.std.proofs.lemmas.Bool.{OnTrue_from}
use Rattle.std.proofs.lemmas.List.Elements.{Contains-get_or}
use Rattle.ternary.specs.declared.tern.Tern.{Tern}
use Rattle.settling.specs.Moved.{ListsChanges}
use Rattle.settling.specs.PlainStepping.{numbers_from}

pub numbers-count : (first count : ℕ) → length (numbers_from first count) ≡ count
numbers-count first zero = refl
numbers-count first (suc count) = ap suc (numbers-count (first + 1) count)

pub number_at : (first count at : ℕ) → at < count → slice_index_or (numbers_from first count) at 0 ≡ first + at
number_at first zero at inside = absurd (omega arith)
number_at first (suc count) zero inside = omega arith
number_at first (suc count) (suc at) inside = number_at (first + 1) count at (omega arith) ∙ (omega arith)

-- inside a list it says nothing what stands outside
pub shift : (numbers : List ℕ) (at other : ℕ) → at < length numbers → slice_index_or numbers at 0 ≡ slice_index_or numbers at other
shift [] at other inside = absurd (omega arith)
shift (number ∷ numbers) zero other inside = refl
shift (number ∷ numbers) (suc at) other inside = shift numbers at other (omega arith)

-- a list of all nodes lists those that changed
pub all_listed : (old new : List Tern) → length new ≡ length old → ListsChanges (numbers_from 0 (length old)) old new
all_listed old new same = record {
  count = same;
  each = λ node inside changed.
      let is = number_at 0 (length old) node inside in
      let count : node < length (numbers_from 0 (length old)) = omega (arith, numbers-count 0 (length old)) in
      subst (Contains (numbers_from 0 (length old))) (is ∙ (omega arith)) (Contains-get_or (numbers_from 0 (length old)) node 0 count);
  inside = λ node there.
      let below : there.0 < length old = omega (arith, there.1, numbers-count 0 (length old)) in
      let is = number_at 0 (length old) there.0 below in
      omega (arith, below, there.2, is, shift (numbers_from 0 (length old)) there.0 node there.1);
}

-- so they do if the list is of as many nodes as there are afterwards
pub listed_after : (old new : List Tern) → length new ≡ length old → ListsChanges (numbers_from 0 (length new)) old new
listed_after old new count = rw count (all_listed old new count)

-- and whatever the answer is
pub listed_on : (result : Bool) (old new : List Tern) → length new ≡ length old →
    OnTrue result (ListsChanges (numbers_from 0 (length new)) old new)
listed_on result old new count = OnTrue_from _ _ (λ set. listed_after old new count)
