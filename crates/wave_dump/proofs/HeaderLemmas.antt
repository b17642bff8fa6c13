-- The header, part by part: entries from a number on, and values; and values that are taken entry by entry.
use Rattle.std.proofs.Common.{◌≡◌, ℕ, ◌+◌, ◌<◌, ◌≤◌, inl, inr, List, [], ◌++◌, length, drop, refl, sym, ◌∙◌, ap, arith, subst, add-one, append_assoc}
use Rattle.std.specs.Prelude.{All, slice_index_or, slice_set}
use Rattle.std.proofs.Math.Seq.{drop-cons, map-set_same}
use Rattle.std.proofs.lemmas.Bool.{cases_eq}
use Rattle.std.proofs.lemmas.List.{ext_get_or, get_or-map, get_or-set_same, get_or-set_other, length-set, length-map, map-set, drop_all}
use Rattle.ternary.specs.declared.tern.Tern.{Tern}
use Rattle.wave_dump.specs.Dumps.{entry_line, entry_lines, first_lines, middle_lines, last_line, header}
use Rattle.wave_dump.specs.Entries.{ShownEntry, IsInside, entries_of, shown_of, no_entry}
use Rattle.wave_dump.specs.Scenes.{EntryData}
use Rattle.wave_dump.specs.Values.{value_in, values_in, value_line, value_lines}
use Rattle.wave_dump.proofs.TextLemmas.{Leaves, leaves_more, leaves_none}

-- the lines of entries from a number on, and of values
pub entries_first : (entries : List EntryData) (number : ℕ) → number < length entries →
    entry_lines number (drop number entries)
    ≡ entry_line number (slice_index_or entries number no_entry) ++ entry_lines (number + 1) (drop (number + 1) entries)
entries_first entries number inside =
    ap (entry_lines number) (drop-cons entries number no_entry inside)
    ∙ ap (λ next. entry_line number (slice_index_or entries number no_entry) ++ entry_lines (number + 1) (drop next entries)) (sym (add-one number))

pub entries_end : (entries : List EntryData) (number : ℕ) → length entries ≤ number → entry_lines number (drop number entries) ≡ []
entries_end entries number end = ap (entry_lines number) (drop_all number entries end)

pub values_first : (values : List (List Tern)) (number : ℕ) → number < length values →
    value_lines number (drop number values)
    ≡ value_line number (slice_index_or values number []) ++ value_lines (number + 1) (drop (number + 1) values)
values_first values number inside =
    ap (value_lines number) (drop-cons values number [] inside)
    ∙ ap (λ next. value_line number (slice_index_or values number []) ++ value_lines (number + 1) (drop next values)) (sym (add-one number))

pub values_end : (values : List (List Tern)) (number : ℕ) → length values ≤ number → value_lines number (drop number values) ≡ []
values_end values number end = ap (value_lines number) (drop_all number values end)

-- the nodes of an entry that is held are there
pub inside_held : (count : ℕ) (old now : List ShownEntry) (number : ℕ) (one : ShownEntry) → number < length now → one ≡ slice_index_or now number one →
    entries_of now ≡ entries_of old → All (IsInside count) (entries_of old) → IsInside count one.entry
inside_held count old now number one inside is same all =
    let within : number < length (entries_of old) = omega (arith, inside, ap length same, length-map now (λ (held : ShownEntry). held.entry)) in
    subst (IsInside count) (get_or-map (λ (held : ShownEntry). held.entry) now number one no_entry inside ∙ ap (λ (held : ShownEntry). held.entry) (sym is))
    (subst (λ entries. IsInside count (slice_index_or entries number no_entry)) (sym same) (all number no_entry within))

-- the first entries, so many, have their values in a state
pub record FreshFirst (state : List Tern) (old now : List ShownEntry) (at : ℕ) : Type 0 where
  pub count : length now ≡ length old
  pub entries : entries_of now ≡ entries_of old
  pub first : (k : ℕ) → k < at → slice_index_or (shown_of now) k [] ≡ value_in state (slice_index_or (entries_of old) k no_entry)

pub fresh-none : (state : List Tern) (old : List ShownEntry) → FreshFirst state old old 0
fresh-none state old = record { count = refl; entries = refl; first = λ k below. absurd (omega (arith, below)) }

pub fresh-more : (state : List Tern) (old now : List ShownEntry) (at : ℕ) (was new : ShownEntry) → at < length old →
    was ≡ slice_index_or now at was → new.entry ≡ was.entry → new.shown ≡ value_in state was.entry → FreshFirst state old now at →
    FreshFirst state old (slice_set now at new) (at + 1)
fresh-more state old now at was new inside is kept shown fresh =
    let here : at < length now = omega (arith, inside, fresh.count) in
    let entry : slice_index_or (entries_of old) at no_entry ≡ was.entry =
    sym (ap (λ entries. slice_index_or entries at no_entry) fresh.entries)
    ∙ (get_or-map (λ (held : ShownEntry). held.entry) now at was no_entry here ∙ ap (λ (held : ShownEntry). held.entry) (sym is)) in
    let all : shown_of (slice_set now at new) ≡ slice_set (shown_of now) at new.shown = map-set (λ (held : ShownEntry). held.shown) now at new in
    record {
      count = length-set now at new ∙ fresh.count;
      entries = map-set_same (λ (held : ShownEntry). held.entry) now at new was (kept ∙ ap (λ (held : ShownEntry). held.entry) is) ∙ fresh.entries;
      first = λ k below. ap (λ values. slice_index_or values k []) all ∙ elim (cases_eq k at) [
        | inl same ↦ subst (λ k. slice_index_or (slice_set (shown_of now) at new.shown) k [] ≡ value_in state (slice_index_or (entries_of old) k no_entry)) (sym same)
            (get_or-set_same (shown_of now) at new.shown [] (omega (arith, here, length-map now (λ (held : ShownEntry). held.shown)))
            ∙ (shown ∙ ap (value_in state) (sym entry)))
        | inr other ↦ get_or-set_other (shown_of now) at k new.shown [] other ∙ fresh.first k (omega (arith, below, other))
      ];
    }

pub fresh-all : (state : List Tern) (old now : List ShownEntry) → FreshFirst state old now (length old) → shown_of now ≡ values_in state (entries_of old)
fresh-all state old now fresh =
    let entries = length-map old (λ (held : ShownEntry). held.entry) in
    ext_get_or [] (shown_of now) (values_in state (entries_of old))
    (omega (arith, fresh.count, entries, length-map now (λ (held : ShownEntry). held.shown), length-map (entries_of old) (value_in state)))
    (λ k inside.
    let below : k < length old = omega (arith, inside, fresh.count, length-map now (λ (held : ShownEntry). held.shown)) in
    fresh.first k below ∙ sym (get_or-map (value_in state) (entries_of old) k no_entry [] (omega (arith, below, entries))))

module _ (held : List ShownEntry) (number : ℕ) (all text : List ℕ) where
  module _ (one : ShownEntry) (new : List ℕ) (inside : number < length held) (is : one ≡ slice_index_or held number one) where
    -- the line of the next entry was put
    pub entry_more : Leaves all text (entry_lines 0 (entries_of held)) (entry_lines number (drop number (entries_of held))) →
        new ≡ text ++ entry_line number one.entry →
        Leaves all new (entry_lines 0 (entries_of held)) (entry_lines (number + 1) (drop (number + 1) (entries_of held)))
    entry_more leaves grew =
        let within : number < length (entries_of held) = omega (arith, inside, length-map held (λ (held : ShownEntry). held.entry)) in
        let entry : slice_index_or (entries_of held) number no_entry ≡ one.entry =
        get_or-map (λ (held : ShownEntry). held.entry) held number one no_entry inside ∙ ap (λ (held : ShownEntry). held.entry) (sym is) in
        leaves_more all text new (entry_lines 0 (entries_of held)) (entry_line number one.entry) (entry_lines (number + 1) (drop (number + 1) (entries_of held)))
        (subst (Leaves all text (entry_lines 0 (entries_of held)))
        (entries_first (entries_of held) number within
        ∙ ap (λ entry. entry_line number entry ++ entry_lines (number + 1) (drop (number + 1) (entries_of held))) entry) leaves) grew

    -- or that of the next value
    pub value_more : Leaves all text (value_lines 0 (shown_of held)) (value_lines number (drop number (shown_of held))) →
        new ≡ text ++ value_line number one.shown →
        Leaves all new (value_lines 0 (shown_of held)) (value_lines (number + 1) (drop (number + 1) (shown_of held)))
    value_more leaves grew =
        let within : number < length (shown_of held) = omega (arith, inside, length-map held (λ (held : ShownEntry). held.shown)) in
        let value : slice_index_or (shown_of held) number [] ≡ one.shown =
        get_or-map (λ (held : ShownEntry). held.shown) held number one [] inside ∙ ap (λ (held : ShownEntry). held.shown) (sym is) in
        leaves_more all text new (value_lines 0 (shown_of held)) (value_line number one.shown) (value_lines (number + 1) (drop (number + 1) (shown_of held)))
        (subst (Leaves all text (value_lines 0 (shown_of held)))
        (values_first (shown_of held) number within
        ∙ ap (λ value. value_line number value ++ value_lines (number + 1) (drop (number + 1) (shown_of held))) value) leaves) grew

  -- at the end nothing is left
  pub entries_put : length held ≤ number → Leaves all text (entry_lines 0 (entries_of held)) (entry_lines number (drop number (entries_of held))) →
      text ≡ all ++ entry_lines 0 (entries_of held)
  entries_put end leaves =
      leaves_none all text (entry_lines 0 (entries_of held)) (subst (Leaves all text (entry_lines 0 (entries_of held)))
      (entries_end (entries_of held) number (omega (arith, end, length-map held (λ (held : ShownEntry). held.entry)))) leaves)

  pub values_put : length held ≤ number → Leaves all text (value_lines 0 (shown_of held)) (value_lines number (drop number (shown_of held))) →
      text ≡ all ++ value_lines 0 (shown_of held)
  values_put end leaves =
      leaves_none all text (value_lines 0 (shown_of held)) (subst (Leaves all text (value_lines 0 (shown_of held)))
      (values_end (shown_of held) number (omega (arith, end, length-map held (λ (held : ShownEntry). held.shown)))) leaves)

-- the header, part by part
pub header_put : (entries : List EntryData) (values : List (List Tern)) (old one two three four five : List ℕ) → one ≡ old ++ first_lines →
    two ≡ one ++ entry_lines 0 entries → three ≡ two ++ middle_lines → four ≡ three ++ value_lines 0 values → five ≡ four ++ last_line →
    five ≡ old ++ header entries values
header_put entries values old one two three four five first listed middle shown last =
    let a = first_lines in let b = entry_lines 0 entries in let c = middle_lines in let d = value_lines 0 values in let e = last_line in
    last ∙ (ap (λ text. text ++ e) (shown ∙ ap (λ text. text ++ d) (middle ∙ ap (λ text. text ++ c) (listed ∙ ap (λ text. text ++ b) first)))
    ∙ (ap (λ text. ((text ++ c) ++ d) ++ e) (append_assoc old a b)
    ∙ (ap (λ text. (text ++ d) ++ e) (append_assoc old (a ++ b) c)
    ∙ (ap (λ text. text ++ e) (append_assoc old ((a ++ b) ++ c) d)
    ∙ append_assoc old (((a ++ b) ++ c) ++ d) e))))

-- the header of entries whose values were taken
pub header_taken : (state : List Tern) (before fresh lent : List ShownEntry) → lent ≡ fresh → entries_of fresh ≡ entries_of before →
    shown_of fresh ≡ values_in state (entries_of before) →
    header (entries_of lent) (shown_of lent) ≡ header (entries_of before) (values_in state (entries_of before))
header_taken state before fresh lent same entries shown =
    ap (λ (held : List ShownEntry). header (entries_of held) (shown_of held)) same
    ∙ (ap (λ (entries : List EntryData). header entries (shown_of fresh)) entries ∙ ap (header (entries_of before)) shown)
