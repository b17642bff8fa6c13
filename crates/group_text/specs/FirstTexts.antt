-- Lists of texts: which are among them, which are distinct, and which are new beside others.
use Rattle.std.specs.Prelude.{Bool, not, List, [], ◌∷◌, filter}
use Rattle.std.specs.List.{list_any}
use Rattle.group_text.specs.Texts.{GroupTextData}
use Rattle.group_text.specs.Compared.{same_text}

-- the text is among these
abbrev pub is_among : List GroupTextData → GroupTextData → Bool
is_among texts text = list_any (same_text text) texts

-- each text once, where it appears first
abbrev pub first_texts : List GroupTextData → List GroupTextData
first_texts [] = []
first_texts (text ∷ texts) = text ∷ filter (λ other. not (same_text other text)) (first_texts texts)

-- the distinct ones of the second texts that aren't among the first, in order of first appearance
abbrev pub new_texts : List GroupTextData → List GroupTextData → List GroupTextData
new_texts kept texts = filter (λ text. not (is_among kept text)) (first_texts texts)
