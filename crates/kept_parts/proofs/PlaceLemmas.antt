-- What stands at places of lists, and among texts.
use Rattle.std.proofs.Common.{◌≡◌, ℕ, zero, suc, ◌<◌, Bool, true, false, ◌||◌, List, [], ◌∷◌, length, Some, refl, sym, ap, arith}
use Rattle.std.specs.Prelude.{slice_get}
use Rattle.group_text.specs.Texts.{GroupTextData}
use Rattle.group_text.specs.Compared.{same_text, same_text_decides}
use Rattle.group_text.specs.FirstTexts.{is_among}

-- what stands at a place of a list
pub there : {A : Type 0} (xs : List A) (i : ℕ) → i < length xs → (x : A) × (slice_get xs i ≡ Some x)
there [] i inside = absurd (omega (arith, inside))
there (x ∷ xs) zero inside = (x, refl)
there (x ∷ xs) (suc i) inside = there xs i (omega (arith, inside))

pub or_true : (a b : Bool) → b ≡ true → (a || b) ≡ true
or_true true b is = refl
or_true false b is = is

-- what stands at a place is among all
pub among_at : (texts : List GroupTextData) (i : ℕ) (text : GroupTextData) → slice_get texts i ≡ Some text → is_among texts text ≡ true
among_at [] i text here = absurd cc
among_at (first ∷ texts) zero text here =
    let same : first ≡ text = cc in
    let found : same_text text first ≡ true = (same_text_decides text first).1 (sym same) in
    ap (λ b. b || is_among texts text) found
among_at (first ∷ texts) (suc i) text here = or_true (same_text text first) (is_among texts text) (among_at texts i text here)
