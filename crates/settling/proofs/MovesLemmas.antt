-- Counts of moves that stay at the last value of their type, through a step and the rounds behind it.
use Rattle.std.proofs.Common.{◌≡◌, ℕ, ◌+◌, ◌∙◌, ap}
use Rattle.ternary.specs.Counts.{raised}
use Rattle.ternary.proofs.CountsLemmas.{raised-more}

-- a step that moves is one move more
pub moved_once : (before now next count : ℕ) → now ≡ raised before count → next ≡ raised now 1 → next ≡ raised before (count + 1)
moved_once before now next count so_far moved = moved ∙ (ap (λ n. raised n 1) so_far ∙ raised-more before count 1)

-- and with what is passed over behind it so many more
pub moved_ahead : (before now next last count ahead : ℕ) → now ≡ raised before count → next ≡ raised now 1 → last ≡ raised next ahead →
    last ≡ raised before (count + 1 + ahead)
moved_ahead before now next last count ahead so_far moved passed =
    passed ∙ (ap (λ n. raised n ahead) (moved_once before now next count so_far moved) ∙ raised-more before (count + 1) ahead)
