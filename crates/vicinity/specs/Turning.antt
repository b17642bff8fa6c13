-- A list of places with those in front whose switches aren't open, so many of them.
use Rattle.std.specs.Prelude.{◌≡◌, ◌≢◌, ℕ, ◌<◌, ◌≤◌, Bool, true, false, List, length, slice_index}

-- the place stands among the first, so many of them
pub record IsInFront (list : List ℕ) (border place : ℕ) : Type 0 where
  pub k : ℕ
  pub before : k < border
  pub inside : k < length list
  pub here : slice_index list k ≡ place

-- the place came to the front or left it; all other places stay in front or behind
pub record Turns (live : Bool) (place : ℕ) (old : List ℕ) (old_border : ℕ) (new : List ℕ) (border : ℕ) : Type 0 where
  pub count : length new ≡ length old
  pub within : border ≤ length new
  pub front : live ≡ true → IsInFront new border place
  pub behind : live ≡ false → ¬ IsInFront new border place
  pub kept : (q : ℕ) → q ≢ place → IsInFront old old_border q → IsInFront new border q
  pub only : (q : ℕ) → q ≢ place → IsInFront new border q → IsInFront old old_border q
