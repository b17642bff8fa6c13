-- How a text grows by the lines of one number more.
use Rattle.std.proofs.Common.{◌≡◌, ℕ, zero, suc, ◌+◌, ◌*◌, List, [], ◌∷◌, ◌++◌, refl, sym, ap, ◌∙◌, arith, add-zero, append-nil}
use Rattle.std.specs.List.{flat_map, range_with_len}
use Rattle.std.proofs.lemmas.List.{flat_map_more}
use Rattle.net_gen.specs.Lines.{each, turns}

-- one number more stands at the end of a range
range_with_len-suc : (a n : ℕ) → range_with_len a (suc n) ≡ range_with_len a n ++ (a + n) ∷ []
range_with_len-suc a zero = rw add-zero refl
range_with_len-suc a (suc n) =
    let e : a + suc n ≡ (a + 1) + n = omega arith in
    rw e (ap (λ xs. a ∷ xs) (range_with_len-suc (a + 1) n))

-- no number has no lines
pub each-zero : (start : List ℕ) (first : ℕ) (text : ℕ → List ℕ) → start ≡ start ++ each first 0 text
unfolding each
each-zero start first text = sym (append-nil start)

-- the lines of one number more stand at the end
pub each-suc : (start : List ℕ) (first count : ℕ) (text : ℕ → List ℕ) →
    (start ++ each first count text) ++ text (first + count) ≡ start ++ each first (suc count) text
unfolding each
each-suc start first count text =
    flat_map_more text start (range_with_len first count) (first + count)
    ∙ ap (λ xs. start ++ flat_map text xs) (sym (range_with_len-suc first count))

-- a text that holds the lines of `count` numbers, and then those of the next, holds those of one more
pub each-more : (text : ℕ → List ℕ) (first count number more : ℕ) (start now new : List ℕ) →
    now ≡ start ++ each first count text → new ≡ now ++ text number → first + count ≡ number → count + 1 ≡ more →
    new ≡ start ++ each first more text
each-more text first count number more start now new before put at one =
    let one_more : more ≡ suc count = omega arith in
    rw (one_more, put, before, ← at) (each-suc start first count text)

-- no turn has no lines
pub turns-zero : (start : List ℕ) (per : ℕ) (text : ℕ → List ℕ) → start ≡ start ++ turns 0 per text
unfolding turns
turns-zero start per text = each-zero start 0 (λ turn. text (per * turn))

-- the lines of one turn more stand at the end
pub turns-more : (text : ℕ → List ℕ) (per count : ℕ) (start now new : List ℕ) → now ≡ start ++ turns count per text →
    new ≡ now ++ text (per * count) → new ≡ start ++ turns (count + 1) per text
unfolding turns
turns-more text per count start now new before put =
    each-more (λ turn. text (per * turn)) 0 count count (count + 1) start now new before put (omega arith) refl

-- the text and the draws after this many turns of a script
pub record AfterTurns (text : ℕ → ℕ → List ℕ) (per seed turn : ℕ) (start now : List ℕ) (draws_seed drawn : ℕ) : Type 0 where
  pub written : now ≡ start ++ turns turn per (text seed)
  pub same_seed : draws_seed ≡ seed
  pub all_drawn : drawn ≡ per * turn

-- before the first turn
pub AfterTurns-none : (text : ℕ → ℕ → List ℕ) (per seed : ℕ) (start : List ℕ) (draws_seed drawn : ℕ) →
    draws_seed ≡ seed → drawn ≡ 0 → AfterTurns text per seed 0 start start draws_seed drawn
AfterTurns-none text per seed start draws_seed drawn same none = record {
  written = turns-zero start per (text seed);
  same_seed = same;
  all_drawn = rw none (omega arith);
}

-- after one turn more
pub AfterTurns-more : {text : ℕ → ℕ → List ℕ} {per seed turn : ℕ} {start now : List ℕ} {draws_seed drawn : ℕ}
    (new : List ℕ) (new_seed new_drawn : ℕ) → AfterTurns text per seed turn start now draws_seed drawn →
    new ≡ now ++ text draws_seed drawn → new_seed ≡ draws_seed → new_drawn ≡ drawn + per →
    AfterTurns text per seed (turn + 1) start new new_seed new_drawn
AfterTurns-more {text} {per} {seed} {turn} {start} {now} new new_seed new_drawn before put seed_is drawn_is = record {
  written = turns-more (text seed) per turn start now new before.written (rw (← before.same_seed, ← before.all_drawn) put);
  same_seed = seed_is ∙ before.same_seed;
  all_drawn = rw (drawn_is, before.all_drawn) (omega arith);
}
