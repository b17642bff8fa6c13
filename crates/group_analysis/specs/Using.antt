-- The order in which texts are kept, the most recently used first, and which of them stay if there is a bound on their number.
use Rattle.std.specs.Prelude.{ℕ, max, not, List, [], ◌∷◌, ◌++◌, length, take, drop, filter, Option, None, Some}
use Rattle.group_text.specs.Texts.{GroupTextData}
use Rattle.group_text.specs.Compared.{same_text}
use Rattle.group_text.specs.FirstTexts.{is_among, first_texts}

-- the distinct present texts, in order of first appearance, and after them the other kept texts in their order
abbrev pub used_texts : List GroupTextData → List GroupTextData → List GroupTextData
used_texts present kept = first_texts present ++ filter (λ text. not (is_among present text)) kept

-- for how many texts there is room: so many as the bound, or as there are distinct present texts if these are more
abbrev pub room_for : ℕ → List GroupTextData → ℕ
room_for bound present = max bound (length (first_texts present))

-- those of these texts for which there is room: without a bound all
abbrev pub within : Option ℕ → List GroupTextData → List GroupTextData → List GroupTextData
within None present texts = texts
within (Some bound) present texts = take (room_for bound present) texts

-- those for which there is none
abbrev pub past : Option ℕ → List GroupTextData → List GroupTextData → List GroupTextData
past None present texts = []
past (Some bound) present texts = drop (room_for bound present) texts

-- what is kept once the present texts were used, in order
abbrev pub kept_after : Option ℕ → List GroupTextData → List GroupTextData → List GroupTextData
kept_after bound present kept = within bound present (used_texts present kept)

-- what is cut then
abbrev pub cut_after : Option ℕ → List GroupTextData → List GroupTextData → List GroupTextData
cut_after bound present kept = past bound present (used_texts present kept)

-- the text goes to the front, and all others stay behind it in their order
abbrev pub to_front : GroupTextData → List GroupTextData → List GroupTextData
to_front text kept = text ∷ filter (λ other. not (same_text other text)) kept
