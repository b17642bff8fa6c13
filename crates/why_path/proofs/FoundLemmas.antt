-- What one more entry of a search leaves as it was: entries stay, and so do marks.
use Rattle.std.proofs.Common.{◌≡◌, ◌≢◌, ℕ, zero, suc, ◌+◌, ◌<◌, ◌≤◌, Bool, true, false, ◌⊎◌, inl, inr, List, [], ◌∷◌, ◌++◌, length, Some, refl, sym, ◌∙◌, ap, arith, get_or, get_or-set_same, get_or-set_other}
use Rattle.std.specs.Prelude.{slice_get, slice_set}
use Rattle.std.proofs.lemmas.Bool.{cases_eq}
use Rattle.std.proofs.lemmas.List.Sums.{sum_by-set}
use Rattle.std.proofs.lemmas.Option.{slice_get_within, slice_get-get_or, get_or_from_slice_get}
use Rattle.std.proofs.Math.ListN.{set, length-set}
use Rattle.why_path.specs.declared.search.Found.{Found}
use Rattle.why_path.specs.Search.{IsIn, Keeps, not_seen, unseen}

-- an element stays at its place where others come after it
get-append : {X : Type 0} (xs ys : List X) (k : ℕ) (x : X) → slice_get xs k ≡ Some x → slice_get (xs ++ ys) k ≡ Some x
get-append [] ys k x at = absurd (cc)
get-append (y ∷ xs) ys zero x at = at
get-append (y ∷ xs) ys (suc k) x at = get-append xs ys k x at

-- one more element stands at the end
pub get-last : {X : Type 0} (xs : List X) (x : X) → slice_get (xs ++ x ∷ []) (length xs) ≡ Some x
get-last [] x = refl
get-last (y ∷ xs) x = get-last xs x

-- and all others stood there before
pub get-cases : {X : Type 0} (xs : List X) (y : X) (k : ℕ) (x : X) → slice_get (xs ++ y ∷ []) k ≡ Some x →
    (slice_get xs k ≡ Some x) ⊎ ((k ≡ length xs) × (x ≡ y))
get-cases [] y zero x at = inr (refl, cc)
get-cases [] y (suc k) x at = absurd (cc)
get-cases (z ∷ xs) y zero x at = inl at
get-cases (z ∷ xs) y (suc k) x at =
    elim (get-cases xs y k x at) [ inl old ↦ inl old | inr new ↦ inr (ap (λ n. suc n) new.0, new.1) ]

-- what stands at a place is one
get-unique : {X : Type 0} (xs : List X) (k : ℕ) (x y : X) → slice_get xs k ≡ Some x → slice_get xs k ≡ Some y → x ≡ y
get-unique xs k x y one two = cc

-- entries stay where one more comes
pub Keeps-append : (found : List Found) (entry : Found) → Keeps found (found ++ entry ∷ [])
Keeps-append found entry = λ k x at. get-append found (entry ∷ []) k x at

-- entries stay
pub Keeps-same : (found : List Found) → Keeps found found
Keeps-same found = λ k x at. at

-- and stay on
pub Keeps-trans : (a b c : List Found) → Keeps a b → Keeps b c → Keeps a c
Keeps-trans a b c one two = λ k x at. two k x (one k x at)

-- what was found stays found
pub IsIn-kept : {old new : List Found} {node strength : ℕ} → Keeps old new → IsIn old node strength → IsIn new node strength
IsIn-kept kept is_in = record {
  place = is_in.place;
  entry = is_in.entry;
  here = kept is_in.place is_in.entry is_in.here;
  named = is_in.named;
  strong = is_in.strong;
}

-- and is found all the more where less is asked
pub IsIn-lower : {found : List Found} {node low high : ℕ} → IsIn found node high → low ≤ high → IsIn found node low
IsIn-lower is_in most = record {
  place = is_in.place;
  entry = is_in.entry;
  here = is_in.here;
  named = is_in.named;
  strong = omega (arith, is_in.strong);
}

-- under another name for the node
pub IsIn-named : {found : List Found} {node other strength : ℕ} → node ≡ other → IsIn found node strength → IsIn found other strength
IsIn-named same is_in = record {
  place = is_in.place;
  entry = is_in.entry;
  here = is_in.here;
  named = is_in.named ∙ same;
  strong = is_in.strong;
}

-- a mark that is set is set, and so are those that were
pub mark-set : (seen : List Bool) (node : ℕ) → node < length seen → slice_get (slice_set seen node true) node ≡ Some true
mark-set seen node inside =
    slice_get-get_or (set seen node true) node true (omega (arith, length-set seen node true))
    ∙ ap Some (get_or-set_same seen node true true inside)

-- the marks of other nodes stay
pub mark-other : (seen : List Bool) (node other : ℕ) (mark : Bool) → other ≢ node →
    slice_get (slice_set seen node true) other ≡ Some mark → slice_get seen other ≡ Some mark
mark-other seen node other mark apart at =
    let inside : other < length seen = omega (arith, slice_get_within (set seen node true) other mark at, length-set seen node true) in
    slice_get-get_or seen other true inside
    ∙ ap Some (sym (get_or-set_other seen node other true true apart)
    ∙ get_or_from_slice_get (set seen node true) other mark true at)

pub mark-still : (seen : List Bool) (node other : ℕ) → slice_get seen other ≡ Some true → slice_get (slice_set seen node true) other ≡ Some true
mark-still seen node other at =
    let inside : other < length seen = slice_get_within seen other true at in
    elim (cases_eq other node) [
      | inl same ↦ rw same (mark-set seen node (rw same at inside))
      | inr apart ↦
          slice_get-get_or (set seen node true) other true (omega (arith, length-set seen node true))
          ∙ ap Some (get_or-set_other seen node other true true apart ∙ get_or_from_slice_get seen other true true at)
    ]

-- one node fewer is unseen
pub unseen-set : (seen : List Bool) (node : ℕ) → slice_get seen node ≡ Some false → unseen (slice_set seen node true) + 1 ≡ unseen seen
unseen-set seen node at =
    let inside : node < length seen = slice_get_within seen node false at in
    let was : get_or seen node true ≡ false = get_or_from_slice_get seen node false true at in
    let moved = sum_by-set not_seen seen node true true inside in
    omega (arith, rw was at moved)
