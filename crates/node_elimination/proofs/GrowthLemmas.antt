-- Formulas that are held while others are made: they stay within what they were within, and the operations add up.
use Rattle.std.proofs.Common.{◌≡◌, ℕ, ◌+◌, ◌<◌, ◌≤◌, ◌&&◌, ◌||◌, List, [], ◌∷◌, ◌++◌, length, Result, Ok, Err, refl, ap, ◌∙◌, subst, arith}
use Rattle.std.specs.Prelude.{All, IfOk, slice_index_or}
use Rattle.std.proofs.lemmas.List.{append_assoc, length-append, get_or_append_left, get_or-append-add}
use Rattle.bool_pool.specs.declared.gate.Gate.{Gate}
use Rattle.bool_pool.specs.declared.gate.Id.{Id}
use Rattle.bool_pool.specs.Gate.{Extends}
use Rattle.bool_pool.specs.Value.{value_at}
use Rattle.bool_pool.specs.Reach.{IsWithin, AllWithin, IsGrown}
use Rattle.bool_pool.specs.Made.{IsMade, IsFormed}
use Rattle.bool_pool.proofs.ValueLemmas.{value_at-extends}
use Rattle.bool_pool.proofs.WithinLemmas.{IsWithin-listed, IsWithin-extends, IsGrown-made, IsGrown-after}
use Rattle.node_elimination.specs.Growth.{place_of, AreFormulas, AreWithin, AreGrown, Grows}

-- a pool extends itself
pub Extends-same : (gates : List Gate) → Extends gates gates
Extends-same gates = record { longer = omega arith; kept = λ i inside. refl }

-- a pool that extends one that extends another
pub Extends-trans : (a b c : List Gate) → Extends a b → Extends b c → Extends a c
Extends-trans a b c first next = record {
  longer = omega (arith, first.longer, next.longer);
  kept = λ i inside. next.kept i (omega (arith, first.longer)) ∙ first.kept i inside;
}

-- each item of the first part of a list
pub All-front : {X : Type 0} (P : X → Type 0) (xs ys : List X) → All P (xs ++ ys) → All P xs
All-front P xs ys all = λ k d inside.
    subst P (get_or_append_left xs ys d k inside) (all k d (omega (arith, length-append xs ys)))

-- each item of the last part of a list
pub All-back : {X : Type 0} (P : X → Type 0) (xs ys : List X) → All P (xs ++ ys) → All P ys
All-back P xs ys all = λ k d inside.
    subst P (get_or-append-add xs ys k d) (all (length xs + k) d (omega (arith, length-append xs ys)))

-- formulas of a pool are formulas of one that extends it
pub AreFormulas-extends : (before after : List Gate) (ids : List Id) → Extends before after → AreFormulas before ids →
    AreFormulas after ids
AreFormulas-extends before after ids extends formulas = λ k d inside. omega (arith, formulas k d inside, extends.longer)

-- when gates are added, and further places listed, formulas stay within
pub AreWithin-moved : (before after : List Gate) (more listed : List ℕ) (bound : ℕ) (ids : List Id) → Extends before after →
    AreWithin before listed bound ids → AreWithin after (more ++ listed) bound ids
AreWithin-moved before after more listed bound ids extends within = λ k d inside.
    IsWithin-listed after more listed bound (slice_index_or ids k d).place
    (IsWithin-extends before after listed bound (slice_index_or ids k d).place extends (within k d inside))

-- nothing more has to be listed for the same formulas
pub Grows-same : (gates : List Gate) (ids : List Id) (count : ℕ) → Grows gates ids gates ids count
Grows-same gates ids count = record {
  grown = λ listed bound within. record { more = []; few = omega arith; within = within };
}

-- the operations that come to be reached add up
pub Grows-trans : (a b c : List Gate) (xs ys zs : List Id) (m n count : ℕ) → Grows a xs b ys m → Grows b ys c zs n →
    m + n ≤ count →
    Grows a xs c zs count
Grows-trans a b c xs ys zs m n count first next sum = record { grown = both }
  where
    both : (listed : List ℕ) (bound : ℕ) → AreWithin a listed bound xs → AreGrown c listed bound count zs
    both listed bound within =
        let one : AreGrown b listed bound m ys = first.grown listed bound within in
        let two : AreGrown c (one.more ++ listed) bound n zs = next.grown (one.more ++ listed) bound one.within in
        record {
          more = two.more ++ one.more;
          few = omega (arith, one.few, two.few, length-append two.more one.more);
          within = rw append_assoc two.within;
        }

-- the formula at this place is held
abbrev pub IsHeld : List Id → ℕ → Type 0
IsHeld ids p = (k : ℕ) × (k < length ids) × (place_of ids k ≡ p)

-- all of these are held
abbrev pub AreHeld : List Id → List ℕ → Type 0
AreHeld ids [] = Unit {0}
AreHeld ids (p ∷ ps) = IsHeld ids p × AreHeld ids ps

-- what is held in the first part of a list
pub IsHeld-front : (xs ys : List Id) (p : ℕ) → IsHeld xs p → IsHeld (xs ++ ys) p
IsHeld-front xs ys p held = (
  held.0,
  omega (arith, held.1, length-append xs ys),
  ap (λ id. id.place) (get_or_append_left xs ys (record { place = 0 }) held.0 held.1) ∙ held.2,
)

-- what is held in the last part of a list
pub IsHeld-back : (xs ys : List Id) (p : ℕ) → IsHeld ys p → IsHeld (xs ++ ys) p
IsHeld-back xs ys p held = (
  length xs + held.0,
  omega (arith, held.1, length-append xs ys),
  ap (λ id. id.place) (get_or-append-add xs ys held.0 (record { place = 0 })) ∙ held.2,
)

-- a formula that is held is one of the pool
pub inside-held : (gates : List Gate) (ids : List Id) (p : ℕ) → AreFormulas gates ids → IsHeld ids p → p < length gates
inside-held gates ids p formulas held = subst (λ q. q < length gates) held.2 (formulas held.0 (record { place = 0 }) held.1)

-- and is within what all are within
within-held : (gates : List Gate) (listed : List ℕ) (bound : ℕ) (ids : List Id) (p : ℕ) → AreWithin gates listed bound ids →
    IsHeld ids p →
    IsWithin gates listed bound p
within-held gates listed bound ids p within held =
    subst (IsWithin gates listed bound) held.2 (within held.0 (record { place = 0 }) held.1)

-- the same of several
pub AllWithin-held : (gates : List Gate) (listed : List ℕ) (bound : ℕ) (ids : List Id) (ps : List ℕ) →
    AreWithin gates listed bound ids →
    AreHeld ids ps → AllWithin gates listed bound ps
AllWithin-held gates listed bound ids [] within held = tt
AllWithin-held gates listed bound ids (p ∷ ps) within held =
    (within-held gates listed bound ids p within held.0, AllWithin-held gates listed bound ids ps within held.1)

-- the formula "into, or both first and second" is formed in two steps
pub IsFormed-or_and : {E : Type 0} (old mid new : List Gate) (into first second both count : ℕ) (r : Result Id E) →
    Extends old mid → Extends mid new → into < length old →
    IsMade old mid (first ∷ second ∷ []) (λ vars. value_at old vars first && value_at old vars second) both →
    IfOk r (λ id. IsMade mid new (into ∷ both ∷ []) (λ vars. value_at mid vars into || value_at mid vars both) id.place) →
    2 ≤ count →
    IfOk r (λ id. IsFormed old new count (into ∷ first ∷ second ∷ [])
    (λ vars. value_at old vars into || (value_at old vars first && value_at old vars second)) id.place)
IsFormed-or_and old mid new into first second both count (Ok id) to_mid to_new inside made formed enough = record {
  inside = formed.inside;
  value_is = λ vars.
      formed.value_is vars
      ∙ ap (λ b. b || value_at mid vars both) (value_at-extends old mid vars into to_mid inside)
      ∙ ap (λ b. value_at old vars into || b) (made.value_is vars);
  grown = grown;
}
  where
    grown : (listed : List ℕ) (bound : ℕ) → AllWithin old listed bound (into ∷ first ∷ second ∷ []) →
        IsGrown new listed bound count id.place
    grown listed bound within =
        let one : IsGrown mid listed bound 1 both =
        IsGrown-made old mid listed (first ∷ second ∷ []) (λ vars. value_at old vars first && value_at old vars second)
        bound both to_mid made within.1 in
        let into_within : IsWithin mid (one.more ++ listed) bound into =
        IsWithin-listed mid one.more listed bound into (IsWithin-extends old mid listed bound into to_mid within.0) in
        let two : IsGrown new (one.more ++ listed) bound 1 id.place =
        IsGrown-made mid new (one.more ++ listed) (into ∷ both ∷ [])
        (λ vars. value_at mid vars into || value_at mid vars both) bound id.place to_new formed
        (into_within, (one.within, tt)) in
        let all : IsGrown new listed bound 2 id.place = IsGrown-after new one.more listed bound 1 1 id.place one.few two in
        record { more = all.more; few = omega (arith, all.few); within = all.within }
IsFormed-or_and old mid new into first second both count (Err e) to_mid to_new inside made formed enough = tt
