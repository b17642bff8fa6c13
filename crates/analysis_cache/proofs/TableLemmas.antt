-- The entries of the table, and what they show: its texts in their order, and the code of each.
use Rattle.std.proofs.Common.{◌≡◌, ◌-◌, ◌^◌, ◌<◌, Bool, length, true, false, not, cond, ◌||◌, List, [], ◌∷◌, ◌++◌, take, filter, Option, None, Some, is_none, Result, Ok, Err, OnOk, OnErr, is_ok, refl, sym, ap, subst, ◌∙◌, true≢false, inl, inr, arith}
use Rattle.std.specs.Prelude.{All, Contains, option_map, slice_get}
use Rattle.std.specs.List.{IsDistinct, AllByRecursion}
use Rattle.std.specs.Map.{keys_of, lookup, lookup_entry, remove_entry}
use Rattle.std.specs.Borrow.{Bor}
use Rattle.std.specs.Option.{IfSome, option_copied, option_map_or}
use Rattle.std.proofs.lemmas.List.{map-append, take_all, take-map, length-map}
use Rattle.std.proofs.lemmas.Option.{slice_get-map}
use Rattle.std.proofs.lemmas.List.Elements.{All-nil, All-head, All-tail, All-push, All-contains, All-contains_itself, All-weaker}
use Rattle.std.proofs.lemmas.Bool.{cond-true, cond-false, or_parts}
use Rattle.lru.specs.LruCache.{LruCache, lru_cache, promoted, demoted, put_entries, last_entry}
use Rattle.lru.proofs.Splits.{Contains-head, Contains-tail, Contains-cons, Contains-nil}
use Rattle.group_text.specs.Texts.{GroupTextData}
use Rattle.group_text.specs.Compared.{same_text, same_text_decides, same_text_equivalence}
use Rattle.group_analysis.specs.Meaning.{MeansText}
use Rattle.group_text.specs.FirstTexts.{is_among}
use Rattle.group_analysis.specs.Using.{to_front}
use Rattle.analysis_cache.specs.Keeping.{Entry, entry_texts, IsKept}
use Rattle.analysis_cache.specs.Table.{Shared, shown}

-- the entries of a table
abbrev pub Rows : Type 0
Rows = List (GroupTextData × Shared)

-- a table
abbrev pub Table : Type 0
Table = LruCache GroupTextData Shared

-- the texts that are shown are the keys
pub entry_texts-shown : (rows : Rows) → entry_texts (shown rows) ≡ keys_of rows
entry_texts-shown [] = refl
entry_texts-shown (row ∷ rows) = ap (λ texts. row.0 ∷ texts) (entry_texts-shown rows)

-- the code that is shown under a text is that of its row
pub lookup-shown : (rows : Rows) (text : GroupTextData) →
    option_map (λ shared. shared.value) (lookup (same_text text) rows) ≡ lookup (same_text text) (shown rows)
lookup-shown [] text = refl
lookup-shown (row ∷ rows) text = by (same_text text row.0) (lookup-shown rows text)
  where
    by : (same : Bool) → option_map (λ shared. shared.value) (lookup (same_text text) rows) ≡ lookup (same_text text) (shown rows) →
        option_map (λ (shared : Shared). shared.value) (cond same (Some row.1) (lookup (same_text text) rows))
        ≡ cond same (Some row.1.value) (lookup (same_text text) (shown rows))
    by true rest = refl
    by false rest = rest

-- a text has no row exactly if it isn't shown
pub is_none-lookup : (rows : Rows) (text : GroupTextData) →
    is_none (lookup (same_text text) rows) ≡ not (is_among (entry_texts (shown rows)) text)
is_none-lookup [] text = refl
is_none-lookup (row ∷ rows) text = by (same_text text row.0) (is_none-lookup rows text)
  where
    by : (same : Bool) → is_none (lookup (same_text text) rows) ≡ not (is_among (entry_texts (shown rows)) text) →
        is_none (cond same (Some row.1) (lookup (same_text text) rows)) ≡ not (same || is_among (entry_texts (shown rows)) text)
    by true rest = refl
    by false rest = rest

-- the code that is found for a text means it
pub MeansText-lookup : (rows : Rows) (text : GroupTextData) → All (λ entry. MeansText entry.0 entry.1) (shown rows) →
    IfSome (lookup (same_text text) rows) (λ shared. MeansText text shared.value)
MeansText-lookup [] text means = tt
MeansText-lookup (row ∷ rows) text means =
    by (same_text text row.0) refl
    (All-head (λ entry. MeansText entry.0 entry.1) (row.0, row.1.value) (shown rows) means)
    (MeansText-lookup rows text (All-tail (λ entry. MeansText entry.0 entry.1) (row.0, row.1.value) (shown rows) means))
  where
    by : (same : Bool) → same_text text row.0 ≡ same → MeansText row.0 row.1.value →
        IfSome (lookup (same_text text) rows) (λ shared. MeansText text shared.value) →
        IfSome (cond same (Some row.1) (lookup (same_text text) rows)) (λ shared. MeansText text shared.value)
    by true is here rest = subst (λ one. MeansText one row.1.value) (sym ((same_text_decides text row.0).0 is)) here
    by false is here rest = rest

-- the code of what is lent is the code of what was found
pub code-lent : (lent : Option (Bor Shared)) (found : Option Shared) → option_copied lent ≡ found →
    option_map (λ code. code.now.value) lent ≡ option_map (λ shared. shared.value) found
code-lent None found same = ap (option_map (λ (shared : Shared). shared.value)) same
code-lent (Some code) found same = ap (option_map (λ (shared : Shared). shared.value)) same

-- what a table lends is there where it has it
pub is_none-lent : {T : Type 0} (lent : Option (Bor T)) (has : Option T) → option_copied lent ≡ has → is_none lent ≡ is_none has
is_none-lent None has is = ap is_none is
is_none-lent (Some one) has is = ap is_none is

-- and what holds of what it has holds of what it lends
pub IfSome-lent : {T : Type 0} (lent : Option (Bor T)) (has : Option T) (P : T → Type 0) → option_copied lent ≡ has → IfSome has P →
    IfSome lent (λ one. P one.now)
IfSome-lent None has P is holds = tt
IfSome-lent (Some one) has P is holds = subst (λ found. IfSome found P) (sym is) holds

-- a text that isn't there has no row
no_row : (rows : Rows) (text : GroupTextData) → is_among (keys_of rows) text ≡ false → lookup_entry (same_text text) rows ≡ None
no_row [] text absent = refl
no_row (row ∷ rows) text absent =
    let parts = or_parts (same_text text row.0) (is_among (keys_of rows) text) absent in
    cond-false (same_text text row.0) (Some row) (lookup_entry (same_text text) rows) parts.0 ∙ no_row rows text parts.1

-- one that is there has a row of its own
record HasRow (rows : Rows) (text : GroupTextData) : Type 0 where
  row : GroupTextData × Shared
  found : lookup_entry (same_text text) rows ≡ Some row
  own : row.0 ≡ text

has_row : (rows : Rows) (text : GroupTextData) → is_among (keys_of rows) text ≡ true → HasRow rows text
has_row [] text there = absurd (true≢false (sym there))
has_row (row ∷ rows) text there = by (same_text text row.0) refl there (has_row rows text)
  where
    by : (same : Bool) → same_text text row.0 ≡ same → (same || is_among (keys_of rows) text) ≡ true →
        (is_among (keys_of rows) text ≡ true → HasRow rows text) → HasRow (row ∷ rows) text
    by true is some rest =
        record {
          row = row;
          found = cond-true (same_text text row.0) (Some row) (lookup_entry (same_text text) rows) is;
          own = sym ((same_text_decides text row.0).0 is);
        }
    by false is some rest =
        let later = rest some in
        record {
          row = later.row;
          found = cond-false (same_text text row.0) (Some row) (lookup_entry (same_text text) rows) is ∙ later.found;
          own = later.own;
        }

-- of texts that are all others than a text none is filtered out with it
others_stay : (text first : GroupTextData) (texts : List GroupTextData) → same_text text first ≡ true →
    AllByRecursion (λ other. same_text first other ≡ false) texts → filter (λ other. not (same_text other text)) texts ≡ texts
others_stay text first [] same apart = refl
others_stay text first (other ∷ texts) same apart =
    let another : same_text other text ≡ false =
    same_text_equivalence.symm other text ∙ same_text_equivalence.congr text first other same ∙ apart.0 in
    cond-true (not (same_text other text)) _ _ (ap not another) ∙ ap (λ l. other ∷ l) (others_stay text first texts same apart.1)

-- without the row of a text all other texts stay, in their order
keys-removed : (rows : Rows) (text : GroupTextData) → IsDistinct same_text (keys_of rows) →
    keys_of (remove_entry (same_text text) rows) ≡ filter (λ other. not (same_text other text)) (keys_of rows)
unfolding IsDistinct
keys-removed [] text apart = refl
keys-removed (row ∷ rows) text apart = by (same_text text row.0) refl (keys-removed rows text apart.1)
  where
    flipped : (same : Bool) → same_text text row.0 ≡ same → same_text row.0 text ≡ same
    flipped same is = same_text_equivalence.symm row.0 text ∙ is

    by : (same : Bool) → same_text text row.0 ≡ same →
        keys_of (remove_entry (same_text text) rows) ≡ filter (λ other. not (same_text other text)) (keys_of rows) →
        keys_of (cond same rows (row ∷ remove_entry (same_text text) rows))
        ≡ cond (not (same_text row.0 text)) (row.0 ∷ filter (λ other. not (same_text other text)) (keys_of rows)) (filter (λ other. not (same_text other text)) (keys_of rows))
    by true is rest =
        sym (cond-false (not (same_text row.0 text)) _ _ (ap not (flipped true is)) ∙ others_stay text row.0 (keys_of rows) is apart.0)
    by false is rest =
        ap (λ l. row.0 ∷ l) rest ∙ sym (cond-true (not (same_text row.0 text)) _ _ (ap not (flipped false is)))

-- a text that is used goes to the front
pub keys-promoted : (rows : Rows) (text : GroupTextData) → IsDistinct same_text (keys_of rows) → is_among (keys_of rows) text ≡ true →
    keys_of (promoted (same_text text) rows) ≡ to_front text (keys_of rows)
keys-promoted rows text apart there =
    let has = has_row rows text there in
    ap (λ found. keys_of (option_map_or (λ row. row ∷ remove_entry (same_text text) rows) found rows)) has.found
    ∙ ap (λ one. one ∷ keys_of (remove_entry (same_text text) rows)) has.own
    ∙ ap (λ l. text ∷ l) (keys-removed rows text apart)

-- a text that is put into the table, and then moved to the back, stands behind the others
pub put_back : (codes : LruCache GroupTextData Shared) (key text : GroupTextData) (code : Shared) → key ≡ text →
    is_among (keys_of codes.entries) text ≡ false → length codes.entries < 2 ^ 63 → codes.cap ≡ 2 ^ 64 - 1 →
    demoted (same_text text) (put_entries same_text codes key code) ≡ codes.entries ++ (text, code) ∷ []
put_back codes key text code same absent few roomy =
    let rows = codes.entries in
    let whole : take (codes.cap - 1) rows ≡ rows = take_all (codes.cap - 1) rows (omega (arith, roomy, few)) in
    let put : put_entries same_text codes key code ≡ (text, code) ∷ rows =
    ap (λ one. put_entries same_text codes one code) same
    ∙ ap (λ found. option_map_or (λ row. (row.0, code) ∷ remove_entry (same_text text) rows) found ((text, code) ∷ take (codes.cap - 1) rows)) (no_row rows text absent)
    ∙ ap (λ l. (text, code) ∷ l) whole in
    ap (demoted (same_text text)) put
    ∙ ap (λ b. option_map_or (λ row. cond b rows ((text, code) ∷ remove_entry (same_text text) rows) ++ row ∷ [])
    (cond b (Some (text, code)) (lookup_entry (same_text text) rows)) ((text, code) ∷ rows)) (same_text_equivalence.refl text)

-- what is shown by one row more
pub shown-push : (rows : Rows) (text : GroupTextData) (shared : Shared) →
    shown (rows ++ (text, shared) ∷ []) ≡ shown rows ++ (text, shared.value) ∷ []
shown-push rows text shared = map-append _ rows ((text, shared) ∷ [])

-- if nothing is kept, nothing is kept twice
pub IsKept-none : IsKept []
unfolding IsDistinct
IsKept-none = record { apart = tt; means = All-nil (λ (entry : Entry). MeansText entry.0 entry.1) }

-- rows with distinct texts show each text once, and with code that means its text one more keeps its text
pub IsKept-push : (rows new : Rows) (text : GroupTextData) (shared : Shared) → new ≡ rows ++ (text, shared) ∷ [] →
    All (λ entry. MeansText entry.0 entry.1) (shown rows) → MeansText text shared.value → IsDistinct same_text (keys_of new) → IsKept (shown new)
IsKept-push rows new text shared grown each means distinct =
    record {
      apart = subst (IsDistinct same_text) (sym (entry_texts-shown new)) distinct;
      means =
          subst (All (λ entry. MeansText entry.0 entry.1)) (sym (ap shown grown ∙ shown-push rows text shared))
          (All-push (λ entry. MeansText entry.0 entry.1) (shown rows) (text, shared.value) each means);
    }

-- what is shown was a row
shown_row : (rows : Rows) (entry : Entry) → Contains (shown rows) entry →
    (row : GroupTextData × Shared) × Contains rows row × ((row.0, row.1.value) ≡ entry)
shown_row [] entry there = absurd (Contains-nil entry there)
shown_row (row ∷ rows) entry there = elim (Contains-cons (row.0, row.1.value) (shown rows) entry there) [
  | inl same ↦ (row, Contains-head row rows, same)
  | inr rest ↦ let later = shown_row rows entry rest in (later.0, Contains-tail row rows later.0 later.1, later.2)
]

-- and a row is shown
row_shown : (rows : Rows) (row : GroupTextData × Shared) → Contains rows row → Contains (shown rows) (row.0, row.1.value)
row_shown [] row there = absurd (Contains-nil row there)
row_shown (first ∷ rows) row there = elim (Contains-cons first rows row there) [
  | inl same ↦
      subst (λ (one : GroupTextData × Shared). Contains (shown (first ∷ rows)) (one.0, one.1.value)) same
      (Contains-head (first.0, first.1.value) (shown rows))
  | inr rest ↦ Contains-tail (first.0, first.1.value) (shown rows) (row.0, row.1.value) (row_shown rows row rest)
]

-- rows that were there show what was shown
pub shown-some : (old new : Rows) → ((row : GroupTextData × Shared) → Contains new row → Contains old row) →
    (entry : Entry) → Contains (shown new) entry → Contains (shown old) entry
shown-some old new some entry there =
    let was = shown_row new entry there in
    subst (Contains (shown old)) was.2 (row_shown old was.0 (some was.0 was.1))

-- and keep their meaning, where no two have one text
pub IsKept-some : (old new : Rows) → ((row : GroupTextData × Shared) → Contains new row → Contains old row) →
    IsKept (shown old) → IsDistinct same_text (keys_of new) → IsKept (shown new)
IsKept-some old new some kept distinct =
    record {
      apart = subst (IsDistinct same_text) (sym (entry_texts-shown new)) distinct;
      means =
          All-weaker (Contains (shown new)) (λ entry. MeansText entry.0 entry.1)
          (λ entry there. All-contains (λ one. MeansText one.0 one.1) (shown old) entry kept.means (shown-some old new some entry there))
          (shown new) (All-contains_itself (shown new));
    }

-- what holds on an answer holds if there is one
pub answered : {T E P : Type 0} (result : Result T E) → true ≡ is_ok result → OnOk result P → P
answered (Ok value) is fact = fact
answered (Err fault) is fact = absurd (true≢false is)

-- the last text of the table is the last that is shown
pub last_text : (rows : Rows) (row : GroupTextData × Shared) → Some row ≡ last_entry rows →
    Some row.0 ≡ slice_get (entry_texts (shown rows)) (length (shown rows) - 1)
last_text rows row last =
    ap (option_map (λ one. one.0)) last
    ∙ sym (slice_get-map (λ one. one.0) rows (length rows - 1))
    ∙ ap (λ n. slice_get (keys_of rows) (n - 1)) (sym (length-map rows _))
    ∙ ap (λ texts. slice_get texts (length (shown rows) - 1)) (sym (entry_texts-shown rows))

-- where the last row goes, the last entry does
pub shown-popped : (rows : Rows) → shown (take (length rows - 1) rows) ≡ take (length (shown rows) - 1) (shown rows)
shown-popped rows =
    sym (take-map _ (length rows - 1) rows)
    ∙ ap (λ n. take (n - 1) (shown rows)) (sym (length-map rows _))

-- no text has two rows if none is kept twice
pub apart_in : (rows : Rows) → IsKept (shown rows) → IsDistinct same_text (keys_of rows)
apart_in rows kept = subst (IsDistinct same_text) (entry_texts-shown rows) kept.apart

-- a table to which a text was put behind, or not for lack of memory, keeps each text once, under its own code
pub IsKept-put : {E : Type 0} (result : Result (Unit {0}) E) (old new : Table) (text : GroupTextData) (code : Shared) →
    IsKept (shown old.entries) → old.cap ≡ 2 ^ 64 - 1 → MeansText text code.value →
    OnOk result (new ≡ lru_cache (old.entries ++ (text, code) ∷ []) old.cap) →
    OnOk result (IsDistinct same_text (keys_of new.entries)) → OnErr result (new ≡ old) →
    IsKept (shown new.entries) × (new.cap ≡ 2 ^ 64 - 1)
IsKept-put (Ok done) old new text code kept roomy means put apart err = (
  IsKept-push old.entries new.entries text code (ap (λ (table : Table). table.entries) put) kept.means means apart,
  ap (λ (table : Table). table.cap) put ∙ roomy,
)
IsKept-put (Err fault) old new text code kept roomy means put apart err =
    subst (λ (table : Table). IsKept (shown table.entries) × (table.cap ≡ 2 ^ 64 - 1)) (sym err) (kept, roomy)
