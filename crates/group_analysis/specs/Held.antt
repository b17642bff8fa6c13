-- Sets of texts, by their tests: which texts an analyst holds.
use Rattle.std.specs.Prelude.{Bool, not, ◌&&◌, ◌||◌, List}
use Rattle.group_text.specs.Texts.{GroupTextData}
use Rattle.group_text.specs.Compared.{same_text}
use Rattle.group_text.specs.FirstTexts.{is_among}

-- a set of texts: a text is in it where its test holds
abbrev pub TextSet : Type 0
TextSet = GroupTextData → Bool

-- the set of these texts
abbrev pub set_of : List GroupTextData → TextSet
set_of texts = λ other. is_among texts other

-- the set with this text
abbrev pub with_text : TextSet → GroupTextData → TextSet
with_text held text = λ other. same_text other text || held other

-- the set with these texts
abbrev pub with_texts : TextSet → List GroupTextData → TextSet
with_texts held texts = λ other. is_among texts other || held other

-- the set without this text
abbrev pub without_text : TextSet → GroupTextData → TextSet
without_text held text = λ other. not (same_text other text) && held other

-- the set without these texts
abbrev pub without_texts : TextSet → List GroupTextData → TextSet
without_texts held texts = λ other. not (is_among texts other) && held other
