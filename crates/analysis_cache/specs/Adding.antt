-- Texts that are added to what is kept, or aren't for lack of memory.
use Rattle.std.specs.Prelude.{◌≡◌, ℕ, ◌⊎◌, List, [], ◌∷◌, ◌++◌, length}
use Rattle.group_text.specs.Texts.{GroupTextData}
use Rattle.group_text.specs.FirstTexts.{new_texts}
use Rattle.straight_code.specs.Code.{CodeData}
use Rattle.group_analysis.specs.Held.{TextSet, with_texts}
use Rattle.analysis_cache.specs.Keeping.{Entry, KeptData, entry_texts, texts_of}

-- the text was analysed, is held, and is kept behind what was kept
pub record AddsText (old new : KeptData) (before after : List GroupTextData) (held_before held_after : TextSet)
    (text : GroupTextData) : Type 0 where
  pub code : CodeData
  pub kept : new.entries ≡ old.entries ++ (text, code) ∷ []
  pub bound : new.bound ≡ old.bound
  pub analysed : after ≡ before ++ text ∷ []
  pub held : held_after ≡ with_texts held_before (text ∷ [])

-- what was kept is kept, and no more; the text may have been analysed, and is held then
pub record LacksText (old new : KeptData) (before after : List GroupTextData) (held_before held_after : TextSet)
    (text : GroupTextData) : Type 0 where
  pub further : List GroupTextData
  pub kept : new ≡ old
  pub analysed : after ≡ before ++ further
  pub held : held_after ≡ with_texts held_before further
  pub one : (further ≡ []) ⊎ (further ≡ text ∷ [])

-- the new ones of these texts were analysed, in order, are held, and are kept behind what was kept; the count is their number
pub record FillsAll (old new : KeptData) (before after : List GroupTextData) (held_before held_after : TextSet)
    (texts : List GroupTextData) (count : ℕ) : Type 0 where
  pub more : List Entry
  pub kept : new.entries ≡ old.entries ++ more
  pub bound : new.bound ≡ old.bound
  pub added : entry_texts more ≡ new_texts (texts_of old) texts
  pub analysed : after ≡ before ++ new_texts (texts_of old) texts
  pub held : held_after ≡ with_texts held_before (new_texts (texts_of old) texts)
  pub number : count ≡ length (new_texts (texts_of old) texts)
