-- A text that is put piece by piece.
use Rattle.std.proofs.Common.{◌≡◌, ℕ, List, [], ◌++◌, sym, ◌∙◌, ap, append_assoc, append-nil}

-- of a whole text this is left behind what was put
abbrev pub Leaves : List ℕ → List ℕ → List ℕ → List ℕ → Type 0
Leaves before after whole left = before ++ whole ≡ after ++ left

-- one more piece was put
pub leaves_more : (before mid after whole piece left : List ℕ) → Leaves before mid whole (piece ++ left) → after ≡ mid ++ piece → Leaves before after whole left
leaves_more before mid after whole piece left leaves grew =
    leaves ∙ (sym (append_assoc mid piece left) ∙ ap (λ text. text ++ left) (sym grew))

-- nothing is left
pub leaves_none : (before after whole : List ℕ) → Leaves before after whole [] → after ≡ before ++ whole
leaves_none before after whole leaves = sym (leaves ∙ append-nil after)
