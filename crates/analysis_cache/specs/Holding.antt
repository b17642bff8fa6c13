-- What an analyst holds, beside what is kept.
use Rattle.std.specs.Prelude.{◌≡◌, ◌⊎◌, List, [], length}
use Rattle.group_text.specs.Texts.{GroupTextData}
use Rattle.group_analysis.specs.Held.{TextSet, set_of, with_texts}
use Rattle.analysis_cache.specs.Keeping.{KeptData, texts_of}

-- the texts that are held are those that are kept
abbrev pub HoldsKept : KeptData → TextSet → Type 0
HoldsKept kept held = held ≡ set_of (texts_of kept)

-- they are those, and at most one besides
pub record HoldsNearlyKept (kept : KeptData) (held : TextSet) : Type 0 where
  pub further : List GroupTextData
  pub one : (further ≡ []) ⊎ (length further ≡ 1)
  pub are : held ≡ with_texts (set_of (texts_of kept)) further
