-- Tables of strengths while they spread: what comes from what came, one write, and one place more.
use Rattle.std.proofs.Common.{◌≡◌, ℕ, ◌+◌, ◌<◌, ◌≤◌, min, Bool, true, false, ◌||◌, inl, inr, List, length, Option, Some, arith, get_or-set_same, get_or-set_other, below_more}
use Rattle.std.proofs.lemmas.Bool.{cases_eq}
use Rattle.std.specs.Prelude.{slice_index, slice_set}
use Rattle.std.specs.Bool.{OnTrue, OnFalse}
use Rattle.switch_paths.specs.declared.switching.Switch.{Switch}
use Rattle.switch_paths.specs.Graphs.{place_at}
use Rattle.switch_paths.specs.Path.{Joins}
use Rattle.switch_paths.specs.Spread.{Comes, AllCome, Grows, IsSpreadAt, IsSpreadBelow, room_left}
use Rattle.switch_paths.specs.Spread.Comes.{starts, crosses}

module _ (places : List (Option Switch)) (widths floor : List ℕ) where
  -- what comes from strengths that came, came
  Comes-trans : (start mid : List ℕ) → AllCome places widths floor start mid →
      (n strength : ℕ) → Comes places widths floor mid n strength → Comes places widths floor start n strength
  Comes-trans start mid all n strength (starts k positive) = all k positive
  Comes-trans start mid all n strength (crosses m t comes place k switch stands joins wide above) =
      crosses m t (Comes-trans start mid all m t comes) place k switch stands joins wide above

  -- a table whose strengths came from strengths that came
  pub AllCome-trans : (start mid end : List ℕ) →
      AllCome places widths floor start mid → AllCome places widths floor mid end → AllCome places widths floor start end
  AllCome-trans start mid end first next = λ n positive. Comes-trans start mid first n (slice_index end n) (next n positive)

  -- a table comes from itself
  pub AllCome-same : (table : List ℕ) → AllCome places widths floor table table
  AllCome-same table = λ n positive. starts n positive

  -- one write of what comes over a switch
  pub AllCome-set : (table : List ℕ) (m n place width strength : ℕ) (switch : Switch) → n < length table →
      place_at places place ≡ Some switch → Joins switch m n → slice_index widths place ≡ width →
      strength ≡ min (slice_index table m) width → slice_index floor n ≤ strength → slice_index table n < strength →
      AllCome places widths floor table (slice_set table n strength)
  AllCome-set table m n place width strength switch inside stands joins wide is above rises = λ k positive.
      elim (cases_eq k n) [
        | inl same ↦
            let at_n : slice_index (slice_set table n strength) n ≡ strength = get_or-set_same table n strength 0 inside in
            let comes : Comes places widths floor table n (min (slice_index table m) (slice_index widths place)) =
            crosses m (slice_index table m) (starts m (omega arith)) place n switch stands joins (omega arith) (omega arith) in
            rw (same, at_n, is, ← wide) comes
        | inr other ↦
            let stays : slice_index (slice_set table n strength) k ≡ slice_index table k =
            get_or-set_other table n k strength 0 other in
            rw stays (starts k (rw stays at positive))
      ]

-- growing twice is growing
pub Grows-trans : (a b c : List ℕ) → Grows a b → Grows b c → Grows a c
Grows-trans a b c first next = λ n. omega (arith, first n, next n)

-- where a table rose, so far or just now, it has less room left than at the start
pub room-next : (rose more : Bool) (start old new : List ℕ) →
    OnTrue rose (room_left old < room_left start) → OnFalse rose (old ≡ start) → OnTrue more (room_left new < room_left old) →
    OnFalse more (new ≡ old) → OnTrue (rose || more) (room_left new < room_left start)
room-next true true start old new less same less' same' = omega arith
room-next true false start old new less same less' same' = rw same' less
room-next false true start old new less same less' same' = rw (← same) less'
room-next false false start old new less same less' same' = tt

-- where a table neither rose so far nor just now, it is as at the start
pub same-next : (rose more : Bool) (start old new : List ℕ) →
    OnFalse rose (old ≡ start) → OnFalse more (new ≡ old) → OnFalse (rose || more) (new ≡ start)
same-next true more start old new same same' = tt
same-next false true start old new same same' = tt
same-next false false start old new same same' = cc

-- and nothing more comes over the places so far and the next one
pub spread-next : (places : List (Option Switch)) (widths floor : List ℕ) (rose more : Bool) (old new : List ℕ) (place : ℕ) →
    OnFalse rose (IsSpreadBelow places widths floor place old) → OnFalse more (new ≡ old) →
    OnFalse more (IsSpreadAt floor new (slice_index widths place) (place_at places place)) →
    OnFalse (rose || more) (IsSpreadBelow places widths floor (place + 1) new)
spread-next places widths floor true more old new place below same here = tt
spread-next places widths floor false true old new place below same here = tt
spread-next places widths floor false false old new place below same here =
    below_more (λ k. IsSpreadAt floor new (slice_index widths k) (place_at places k)) place (rw same below) here

-- a table grows from itself
pub Grows-same : (a : List ℕ) → Grows a a
Grows-same a = λ n. omega arith
