-- Laws of builds over what is kept, each proved as the contract of a function in `src/laws.rt`.
use Rattle.std.specs.Prelude.{◌≡◌, ℕ, List, [], All, IsTrue, Option}
use Rattle.group_text.specs.Texts.{GroupTextData}
use Rattle.group_text.specs.FirstTexts.{is_among, first_texts, new_texts}
use Rattle.group_analysis.specs.Using.{kept_after}

-- the distinct ones of some present texts serve in their place: the same texts are new, and the same is kept
abbrev pub DistinctTextsServe : Type 0
DistinctTextsServe =
    (bound : Option ℕ) (present kept : List GroupTextData) →
    (new_texts kept (first_texts present) ≡ new_texts kept present) × (kept_after bound (first_texts present) kept ≡ kept_after bound present kept)

-- the first appearances of distinct texts are these
abbrev pub DistinctTextsStay : Type 0
DistinctTextsStay = (texts : List GroupTextData) → first_texts (first_texts texts) ≡ first_texts texts

-- after a build each present text is kept
abbrev pub PresentTextsAreKept : Type 0
PresentTextsAreKept =
    (bound : Option ℕ) (present kept : List GroupTextData) → All (λ text. IsTrue (is_among (kept_after bound present kept) text)) present

-- where the same texts are present at the next build, none is new
abbrev pub NoneIsNewAgain : Type 0
NoneIsNewAgain = (bound : Option ℕ) (present kept : List GroupTextData) → new_texts (kept_after bound present kept) present ≡ []

-- and what is kept stays, in its order
abbrev pub TheSameIsKeptAgain : Type 0
TheSameIsKeptAgain =
    (bound : Option ℕ) (present kept : List GroupTextData) → kept_after bound present (kept_after bound present kept) ≡ kept_after bound present kept
