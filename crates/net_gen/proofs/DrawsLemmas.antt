-- How the generator's number and its draws follow from one draw to the next.
use Rattle.std.proofs.Common.{◌≡◌, ℕ, zero, suc, ◌+◌, ◌/◌, ◌%◌, ◌^◌, refl, ap, add-one, arith}
use Rattle.net_gen.specs.Draws.{next_number, number_after, draw}

-- before the first draw the number is the seed modulo 2 ^ 31
pub number_after-zero : (seed : ℕ) → seed % 2 ^ 31 ≡ number_after seed 0
unfolding number_after
number_after-zero seed = refl

-- a draw gives the next number
pub number_after-more : (seed drawn number : ℕ) → number ≡ number_after seed drawn →
    next_number number ≡ number_after seed (drawn + 1)
unfolding number_after
number_after-more seed drawn number reached = rw add-one (ap next_number reached)

-- and what it gives is that number, divided by 65536
pub draw-more : (seed drawn number : ℕ) → number ≡ number_after seed drawn → next_number number / 65536 ≡ draw seed (drawn + 1)
unfolding draw
draw-more seed drawn number reached = ap (λ x. x / 65536) (number_after-more seed drawn number reached)

-- a seed counts modulo 2 ^ 31
pub number_after-mod : (seed drawn : ℕ) → number_after (seed % 2 ^ 31) drawn ≡ number_after seed drawn
unfolding number_after
number_after-mod seed zero = omega arith
number_after-mod seed (suc drawn) = ap next_number (number_after-mod seed drawn)

-- and so do the draws from it
pub draw-mod : (seed count : ℕ) → draw (seed % 2 ^ 31) count ≡ draw seed count
unfolding draw
draw-mod seed count = ap (λ x. x / 65536) (number_after-mod seed count)
