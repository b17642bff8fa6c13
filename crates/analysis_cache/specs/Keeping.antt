-- Analyses that are kept under their texts.
-- After Beatty and Bryant, "Fast Incremental Circuit Analysis Using Extracted Hierarchy", 1988.
use Rattle.std.specs.Prelude.{◌≡◌, ℕ, ◌⊎◌, List, [], ◌++◌, length, map, Option, All, Contains}
use Rattle.std.specs.List.{IsDistinct}
use Rattle.std.specs.Map.{lookup}
use Rattle.group_text.specs.Texts.{GroupTextData}
use Rattle.group_text.specs.Compared.{same_text}
use Rattle.group_text.specs.FirstTexts.{new_texts}
use Rattle.straight_code.specs.Code.{CodeData}
use Rattle.group_analysis.specs.Meaning.{MeansText}
use Rattle.group_analysis.specs.Held.{TextSet, with_texts, without_texts}
use Rattle.group_analysis.specs.Using.{kept_after, cut_after}

-- a text with its code
abbrev pub Entry : Type 0
Entry = GroupTextData × CodeData

-- the texts of some entries
abbrev pub entry_texts : List Entry → List GroupTextData
entry_texts entries = map (λ entry. entry.0) entries

-- what is kept: texts, each with its code, the most recently used first; and the bound on their number, if there is one
pub record KeptData : Type 0 where
  pub entries : List Entry
  pub bound : Option ℕ

-- the texts that are kept
abbrev pub texts_of : KeptData → List GroupTextData
texts_of kept = entry_texts kept.entries

-- the code that is kept under a text
abbrev pub code_in : KeptData → GroupTextData → Option CodeData
code_in kept text = lookup (same_text text) kept.entries

-- no text is kept twice, and each code means its own text
pub record IsKept (entries : List Entry) : Type 0 where
  pub apart : IsDistinct same_text (entry_texts entries)
  pub means : All (λ entry. MeansText entry.0 entry.1) entries

-- what was kept is kept, in its order and with its code, and what is new stands behind it
pub record IsGrown (old new : KeptData) : Type 0 where
  pub more : List Entry
  pub grown : new.entries ≡ old.entries ++ more
  pub bound : new.bound ≡ old.bound

-- the new ones of these present texts were analysed, in order; the count is their number. All present texts are at the front of what is
-- kept, and what is past the bound was cut, and is held no more. What stays has the code that it had
pub record KeepsAll (old new : KeptData) (before after : List GroupTextData) (held_before held_after : TextSet)
    (present : List GroupTextData) (count : ℕ) : Type 0 where
  pub more : List Entry
  pub added : entry_texts more ≡ new_texts (texts_of old) present
  pub texts : texts_of new ≡ kept_after old.bound present (texts_of old)
  pub codes : (entry : Entry) → Contains new.entries entry → Contains (old.entries ++ more) entry
  pub bound : new.bound ≡ old.bound
  pub analysed : after ≡ before ++ new_texts (texts_of old) present
  pub held : held_after
      ≡ without_texts (with_texts held_before (new_texts (texts_of old) present)) (cut_after old.bound present (texts_of old))
  pub number : count ≡ length (new_texts (texts_of old) present)

-- a prefix of the new texts was analysed, in order, and is kept behind what was kept; at most the next one was analysed beside. The
-- texts that were analysed are held, and nothing was cut
pub record KeepsSome (old new : KeptData) (before after : List GroupTextData) (held_before held_after : TextSet)
    (present : List GroupTextData) : Type 0 where
  pub more : List Entry
  pub further : List GroupTextData
  pub rest : List GroupTextData
  pub kept : new.entries ≡ old.entries ++ more
  pub bound : new.bound ≡ old.bound
  pub front : new_texts (texts_of old) present ≡ entry_texts more ++ (further ++ rest)
  pub analysed : after ≡ before ++ (entry_texts more ++ further)
  pub held : held_after ≡ with_texts held_before (entry_texts more ++ further)
  pub one : (further ≡ []) ⊎ (length further ≡ 1)
