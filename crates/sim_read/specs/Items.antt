-- Items: the parts of a word between commas, and what they set.
use Rattle.std.specs.Prelude.{◌≡◌, ⊤, ℕ, Bool, true, ◌==◌, List, [], ◌∷◌, length, take, drop, filter_map, codes, bytes_eq, Option, Some, None, if◌then◌else◌}
use Rattle.std.specs.List.{slice_split, flat_map}
use Rattle.std.specs.Option.{option_and_then}
use Rattle.strength_order.specs.declared.Profile.{Profile}
use Rattle.line_words.specs.Decimals.{decimal_of}
use Rattle.netlist.specs.Edits.{is_size, is_strength}
use Rattle.sim_read.specs.declared.items.Setting.{Setting}
use Rattle.sim_read.specs.declared.items.Setting.TheVariants.{Unset, Input, Size}

-- a comma, between two items
abbrev pub comma : ℕ
comma = 44

-- the byte is a comma
abbrev pub is_comma : ℕ → Bool
is_comma byte = byte == comma

-- the items of a word: its parts between commas
abbrev pub items_of : List ℕ → List (List ℕ)
items_of word = slice_split is_comma word

-- the items that are left of a word: those of what stands after the last comma that was passed, or none
abbrev pub items_left : Option (List ℕ) → List (List ℕ)
items_left None = []
items_left (Some rest) = items_of rest

-- what stands after these bytes, where the word begins with them
abbrev pub after_prefix : List ℕ → List ℕ → Option (List ℕ)
after_prefix prefix word =
    if bytes_eq (take (length prefix) word) prefix then Some (drop (length prefix) word) else None

-- the items of the words that begin with `g=`, which speak of the transistor's gate
abbrev pub gate_items : List (List ℕ) → List (List ℕ)
gate_items words = flat_map items_of (filter_map (after_prefix (codes "g=")) words)

-- the strengths K of the items `strength:K`, as written
abbrev pub strength_texts : List (List ℕ) → List (List ℕ)
strength_texts items = filter_map (after_prefix (codes "strength:")) items

-- the number that is written, if it is a decimal that passes the test
abbrev pub number_that : (ℕ → Bool) → List ℕ → Option ℕ
number_that test text = option_and_then (λ number. if test number then Some number else None) (decimal_of text)

-- the strength after these settings: the last one, or this one if there is none; none if one of them isn't accepted
abbrev pub strength_after : Profile → ℕ → List (List ℕ) → Option ℕ
strength_after profile strength [] = Some strength
strength_after profile strength (text ∷ texts) =
    option_and_then (λ next. strength_after profile next texts) (number_that (is_strength profile) text)

-- the strength of a transistor, by the words after its drain
abbrev pub strength_of : Profile → ℕ → List (List ℕ) → Option ℕ
strength_of profile usual words = strength_after profile usual (strength_texts (gate_items words))

-- what the size of an item `size:K` sets, if it is accepted
abbrev pub size_setting : Profile → List ℕ → Option Setting
size_setting profile text = option_and_then (λ size. Some (Size size)) (number_that (is_size profile) text)

-- what an item sets that isn't `input`: a size, if it has one, or nothing new
abbrev pub setting_by : Profile → Setting → Option (List ℕ) → Option Setting
setting_by profile setting None = Some setting
setting_by profile setting (Some text) = size_setting profile text

-- what is set after an item: `input` an input node, `size:K` a storage node of size K; other items are passed
abbrev pub setting_after_item : Profile → Setting → List ℕ → Option Setting
setting_after_item profile setting item =
    if bytes_eq item (codes "input") then Some Input
    else setting_by profile setting (after_prefix (codes "size:") item)

-- what is set after these items, from left to right, or none if a size isn't accepted
abbrev pub setting_after : Profile → Setting → List (List ℕ) → Option Setting
setting_after profile setting [] = Some setting
setting_after profile setting (item ∷ items) =
    option_and_then (λ next. setting_after profile next items) (setting_after_item profile setting item)

-- the profile accepts the size that is set, if one is
abbrev pub IsAccepted : Profile → Setting → Type 0
IsAccepted profile Unset = ⊤
IsAccepted profile Input = ⊤
IsAccepted profile (Size size) = is_size profile size ≡ true

-- what the words after a node's name set
abbrev pub setting_of : Profile → List (List ℕ) → Option Setting
setting_of profile words = setting_after profile Unset (flat_map items_of words)
