-- Which texts the parts of a machine have, and how many of them are distinct.
use Rattle.std.specs.Prelude.{◌≡◌, ℕ, ◌==◌, ◌<◌, ◌++◌, Bool, false, if◌then◌else◌, List, length, map, filter, count_by, nat_lt, Option, None, Some, All, IsTrue, slice_get, slice_index, slice_index_or}
use Rattle.std.specs.Option.{option_and_then}
use Rattle.std.specs.List.{IsDistinct, filter_map}
use Rattle.group_text.specs.Texts.{GroupTextData}
use Rattle.group_text.specs.Compared.{same_text}
use Rattle.group_text.specs.FirstTexts.{first_texts, is_among}
use Rattle.group_analysis.specs.Using.{used_texts, kept_after}
use Rattle.analysis_cache.specs.Keeping.{KeptData, texts_of}

-- the texts that have a number, in the order of their numbers, and for each part the number of its text, if it has one
pub record UsesData : Type 0 where
  pub known : List GroupTextData
  pub numbers : List (Option ℕ)

-- the text of each part, if it has one
abbrev pub texts_used : UsesData → List (Option GroupTextData)
texts_used uses = map (option_and_then (slice_get uses.known)) uses.numbers

-- the texts of those parts that have one
abbrev pub some_texts : List (Option GroupTextData) → List GroupTextData
some_texts texts = filter_map (λ text. text) texts

-- how many distinct ones these are
abbrev pub count_distinct : List (Option GroupTextData) → ℕ
count_distinct texts = length (first_texts (some_texts texts))

-- the known texts that some part has, in the order of their numbers
abbrev pub in_use : UsesData → List GroupTextData
in_use uses = filter (is_among (some_texts (texts_used uses))) uses.known

-- the same texts are among these and those
abbrev pub AreSame : List GroupTextData → List GroupTextData → Type 0
AreSame these those = (text : GroupTextData) → is_among these text ≡ is_among those text

-- a build with these present texts, whose new ones stand behind what was kept, left this kept, once the present ones stand in front: what is
-- past the bound was cut, and no present text
pub record CutsTo (texts : List GroupTextData) (old new : KeptData) : Type 0 where
  pub kept : (present : List GroupTextData) → AreSame present texts → used_texts present (texts_of new) ≡ kept_after old.bound present (texts_of old)
  pub there : All (λ text. IsTrue (is_among (texts_of new) text)) texts
  pub bound : new.bound ≡ old.bound

-- each of the known texts is used as often as it stands among these texts
pub record CountsUses (known texts : List GroupTextData) (counts : List ℕ) : Type 0 where
  pub count : length counts ≡ length known
  pub each : (number : ℕ) (text : GroupTextData) → slice_get known number ≡ Some text → slice_index counts number ≡ count_by (same_text text) texts

-- how many counts aren't 0
abbrev pub used : List ℕ → ℕ
used counts = count_by (nat_lt 0) counts

-- the first use of a text is one distinct text more
abbrev pub first_use : ℕ → ℕ
first_use before = if before == 0 then 1 else 0

-- the last use of a text gone is one distinct text less
abbrev pub last_use : ℕ → ℕ
last_use before = if before == 1 then 1 else 0

-- the part has this number
abbrev pub is_number : ℕ → Option ℕ → Bool
is_number number None = false
is_number number (Some other) = number == other

-- no text has two numbers, each part's number is one of those, each number is counted, and so are those that a part has
pub record AreCounted (known : List GroupTextData) (counts : List ℕ) (numbers : List (Option ℕ)) (distinct : ℕ) : Type 0 where
  pub apart : IsDistinct same_text known
  pub counted : length counts ≡ length known
  pub inside : (k number : ℕ) → slice_index_or numbers k None ≡ Some number → number < length known
  pub each : (number : ℕ) → slice_index counts number ≡ count_by (is_number number) numbers
  pub some : distinct ≡ used counts

-- further texts may have got a number, and all else is as before
pub record IsNumbered (old new : UsesData) : Type 0 where
  pub more : List GroupTextData
  pub known : new.known ≡ old.known ++ more
  pub numbers : new.numbers ≡ old.numbers
