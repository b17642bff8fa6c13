-- Replacements that are counted: the kind of each is that of its number.
use Rattle.std.proofs.Common.{◌≡◌, ℕ, zero, suc, ◌+◌, ◌-◌, ◌<◌, ◌≤◌, inl, inr, Bool, not, List, refl, sym, subst, arith}
use Rattle.std.proofs.lemmas.Bool.{cases_lt, lt-ltb, le-ltb}
use Rattle.ternary.specs.declared.tern.Tern.{Tern}
use Rattle.switch_paths.specs.Graphs.{GraphData}
use Rattle.switch_paths.specs.Step.{IsStep}
use Rattle.settling.specs.Settling.{IsJoinStep}
use Rattle.run_beside.specs.Agreeing.{IsMove}
use Rattle.run_beside.specs.Replacing.{Replaces, IsReplacement, ReplacesFrom, LaterReplacementsReplace, LaterReplacementsFollow}

-- below the limit a replacement is a plain step
pub is_plain : (g : GraphData) (limit count : ℕ) (old new : List Tern) → count < limit → IsReplacement g limit count old new → IsStep g old new
is_plain g limit count old new less move = subst (λ (below : Bool). IsMove (not below) g old new) (lt-ltb count limit less) move

-- and from the limit on a joining one
pub is_joining : (g : GraphData) (limit count : ℕ) (old new : List Tern) → limit ≤ count → IsReplacement g limit count old new → IsJoinStep g old new
is_joining g limit count old new most move = subst (λ (below : Bool). IsMove (not below) g old new) (le-ltb count limit most) move

pub replaces_later : LaterReplacementsReplace
replaces_later g limit count zero old new replaces = replaces
replaces_later g limit count (suc more) old new (next, move, rest) =
    let later = replaces_later g limit (suc count) more next new rest in
    elim (cases_lt count limit) [
      | inl less ↦
          let left : limit - count ≡ suc (limit - suc count) = omega (arith, less) in
          subst (λ n. Replaces g n (suc more) old new) (sym left) (next, is_plain g limit count old next less move, later)
      | inr most ↦
          let left : limit - count ≡ 0 = omega (arith, most) in
          let none : limit - suc count ≡ 0 = omega (arith, most) in
          subst (λ n. Replaces g n (suc more) old new) (sym left)
          (next, is_joining g limit count old next most move, subst (λ n. Replaces g n more next new) none later)
    ]

pub replaces_then : LaterReplacementsFollow
replaces_then g limit count zero more old mid new first then =
    let so_many : count + 0 ≡ count = omega arith in
    let all : more ≡ 0 + more = omega arith in
    subst (λ n. ReplacesFrom g limit count n old new) all
    (subst (λ state. ReplacesFrom g limit count more state new) first (subst (λ n. ReplacesFrom g limit n more mid new) so_many then))
replaces_then g limit count (suc some) more old mid new (next, move, rest) then =
    let so_many : count + suc some ≡ suc count + some = omega arith in
    let all : suc (some + more) ≡ suc some + more = omega arith in
    subst (λ n. ReplacesFrom g limit count n old new) all
    (next, move, replaces_then g limit (suc count) some more next mid new rest (subst (λ n. ReplacesFrom g limit n more mid new) so_many then))

-- one replacement
pub replaces_one : (g : GraphData) (limit count : ℕ) (old new : List Tern) → IsReplacement g limit count old new → ReplacesFrom g limit count 1 old new
replaces_one g limit count old new move = (new, move, refl)

-- one more behind others
pub replaces_more : (g : GraphData) (limit count some : ℕ) (old mid new : List Tern) → ReplacesFrom g limit count some old mid →
    IsReplacement g limit (count + some) mid new → ReplacesFrom g limit count (some + 1) old new
replaces_more g limit count some old mid new first move =
    replaces_then g limit count some 1 old mid new first (replaces_one g limit (count + some) mid new move)
