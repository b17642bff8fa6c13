-- Formulas that are held under texts: they stay what they are where the pool grows, if a text is added or released, and where the pool
-- is compacted to the gates that they reach.
use Rattle.std.proofs.Common.{◌≡◌, ℕ, suc, ◌+◌, ◌<◌, ◌⊎◌, Bool, true, false, not, cond, ◌||◌, ◌&&◌, List, [], ◌∷◌, ◌++◌, length, map, get_or, All, Contains, Option, None, Some, is_some, Result, Ok, Err, is_ok, OnOk, OnErr, refl, sym, ap, subst, ◌∙◌, inl, inr, true≢false, length-append, arith}
use Rattle.std.specs.Prelude.{slice_get, option_map}
use Rattle.std.specs.Map.{keys_of, lookup}
use Rattle.std.specs.Global.{Vec}
use Rattle.std.proofs.lemmas.List.{map-append, length-map, get_or-map, get_or_append_left, get_or-append-add}
use Rattle.std.proofs.lemmas.List.Elements.{All-nil, All-append, All-cons, All-head, All-tail, All-map, All-weaker}
use Rattle.std.proofs.lemmas.Option.{slice_get-map, slice_get-get_or, slice_get_within, get_or_from_slice_get}
use Rattle.std.proofs.lemmas.Map.Made.{lookup-map_values, is_some-lookup}
use Rattle.std.proofs.lemmas.Map.Entries.{hash_map_get_place}
use Rattle.indexmap.specs.IndexMap.{IndexMap, IsUnique, get}
use Rattle.ternary.specs.declared.tern.Tern.{Tern}
use Rattle.table_keys.specs.declared.TableKeys.{TableKeys}
use Rattle.switch_paths.specs.Graphs.{GraphData}
use Rattle.bool_pool.specs.declared.gate.Gate.{Gate}
use Rattle.bool_pool.specs.declared.gate.Id.{Id}
use Rattle.bool_pool.specs.declared.gate.Rails.{Rails}
use Rattle.bool_pool.specs.Gate.{Extends}
use Rattle.bool_pool.specs.Value.{value_at}
use Rattle.bool_pool.specs.Reach.{AnyReaches}
use Rattle.bool_pool.specs.Compact.{places_of, moved_id}
use Rattle.bool_pool.specs.Compact as pool
use Rattle.bool_pool.proofs.ValueLemmas.{value_at-extends}
use Rattle.bool_pool.proofs.CollectLemmas.{root_reached}
use Rattle.dual_rail.specs.Conduct.{AreInside}
use Rattle.group_text.specs.Texts.{GroupTextData}
use Rattle.group_text.specs.Compared.{same_text, same_text_decides, same_text_equivalence}
use Rattle.group_text.specs.FirstTexts.{is_among}
use Rattle.group_analysis.specs.Held.{set_of, with_text, without_text}
use Rattle.node_elimination.specs.Analysis.{AreRailsOfResponse}
use Rattle.node_elimination.specs.Holding.{HeldData, AreFormulasOf, IsCompacted, IsHolding, IsLean, ids_of, joined}
use Rattle.node_elimination.specs.HeldTable.{lists_of, shown}

-- what holds on success holds where it succeeded
pub answered : {T E P : Type 0} (result : Result T E) → true ≡ is_ok result → OnOk result P → P
answered (Ok value) ok holds = holds
answered (Err fault) ok holds = absurd (true≢false ok)

-- and what holds on refusal if it was refused
pub refused : {T E P : Type 0} (result : Result T E) → false ≡ is_ok result → OnErr result P → P
refused (Ok value) refusal holds = absurd (true≢false (sym refusal))
refused (Err fault) refusal holds = holds

-- formulas with the same values answer for the same steady state
responds_same : (g : GraphData) (state : List Tern) (old new : List Gate) (vars : ℕ → Bool) (node : ℕ) (was now : Rails) →
    value_at new vars now.hi.place ≡ value_at old vars was.hi.place → value_at new vars now.lo.place ≡ value_at old vars was.lo.place →
    AreRailsOfResponse g state old vars node was → AreRailsOfResponse g state new vars node now
responds_same g state old new vars node was now hi lo rails = record {
  one = ((λ set. rails.one.0 (sym hi ∙ set)), (λ responds. hi ∙ rails.one.1 responds));
  zero = ((λ set. rails.zero.0 (sym lo ∙ set)), (λ responds. lo ∙ rails.zero.1 responds));
}

-- what holds of all holds of the one at a place
at_place : {X : Type 0} (P : X → Type 0) (xs : List X) (k : ℕ) (x : X) → All P xs → slice_get xs k ≡ Some x → P x
at_place P xs k x each stands = subst P (get_or_from_slice_get xs k x x stands) (each k x (slice_get_within xs k x stands))

-- where the pool grew, the formulas of a text are its formulas
pub AreFormulasOf-extends : (old new : List Gate) → Extends old new → (text : GroupTextData) (ids : List Id) →
    AreFormulasOf old text ids → AreFormulasOf new text ids
AreFormulasOf-extends old new extends text ids are = record {
  pairs = are.pairs;
  are = are.are;
  count = are.count;
  inside =
      All-weaker (AreInside old) (AreInside new)
      (λ rails inside. record { hi = omega (arith, extends.longer, inside.hi); lo = omega (arith, extends.longer, inside.lo) })
      are.pairs are.inside;
  responses = λ state vars assigned k rails stands.
      let inside = at_place (AreInside old) are.pairs k rails are.inside stands in
      responds_same text.graph state old new vars k rails rails
      (value_at-extends old new vars rails.hi.place extends inside.hi)
      (value_at-extends old new vars rails.lo.place extends inside.lo)
      (are.responses state vars assigned k rails stands);
}

pub IsHolding-extends : (old new : List Gate) → Extends old new → (held : HeldData) → IsHolding old held → IsHolding new held
IsHolding-extends old new extends held holding =
    All-weaker (λ (entry : GroupTextData × List Id). AreFormulasOf old entry.0 entry.1) (λ (entry : GroupTextData × List Id). AreFormulasOf new entry.0 entry.1)
    (λ entry are. AreFormulasOf-extends old new extends entry.0 entry.1 are) held holding

-- what is found under a text is what its entry has
lookup_all : (P : GroupTextData × List Id → Type 0) (held : HeldData) → All P held → (text : GroupTextData) (ids : List Id) →
    lookup (same_text text) held ≡ Some ids → P (text, ids)
lookup_all P [] each text ids found = cc
lookup_all P (entry ∷ held) each text ids found =
    by (same_text text entry.0) refl found (lookup_all P held (All-tail P entry held each) text ids)
  where
    by : (same : Bool) → same_text text entry.0 ≡ same → cond same (Some entry.1) (lookup (same_text text) held) ≡ Some ids →
        (lookup (same_text text) held ≡ Some ids → P (text, ids)) → P (text, ids)
    by true is here rest =
        let own : text ≡ entry.0 = (same_text_decides text entry.0).0 is in
        let has : entry.1 ≡ ids = cc in
        subst (λ one. P (text, one)) has (subst (λ one. P (one, entry.1)) (sym own) (All-head P entry held each))
    by false is later rest = rest later

-- the table of formulas
abbrev pub Table : Type 0
Table = IndexMap GroupTextData (Vec Id) TableKeys

-- after one text was put in or taken out a look-up finds what was there, but under that text
abbrev pub Updated : Table → Table → GroupTextData → Option (Vec Id) → Type 0
Updated old new text put = (other : GroupTextData) → get same_text new other ≡ cond (same_text text other) put (get same_text old other)

-- what is found in the table is shown
lookup-shown : (rows : List (GroupTextData × Vec Id)) (text : GroupTextData) →
    lookup (same_text text) (shown rows) ≡ option_map (λ ids. ids.items) (lookup (same_text text) rows)
lookup-shown rows text = lookup-map_values (λ (ids : Vec Id). ids.items) (same_text text) rows

-- what holds of each entry and of what was put in holds of each entry afterwards
pub each_updated : (P : GroupTextData × List Id → Type 0) (old new : Table) (text : GroupTextData) (put : Option (Vec Id)) →
    IsUnique same_text new → Updated old new text put → All P (shown old.entries) →
    ((ids : Vec Id) → put ≡ Some ids → P (text, ids.items)) → All P (shown new.entries)
each_updated P old new text put unique updated each own =
    All-map P (λ (row : GroupTextData × Vec Id). (row.0, row.1.items)) new.entries (λ k d inside.
    let row = get_or new.entries k d in
    let found : get same_text new row.0 ≡ Some row.1 =
    hash_map_get_place same_text_equivalence new k row.0 row.1 unique (slice_get-get_or new.entries k d inside) in
    by row.0 row.1 (same_text text row.0) refl (sym (updated row.0) ∙ found))
  where
    by : (key : GroupTextData) (ids : Vec Id) (same : Bool) → same_text text key ≡ same →
        cond (same_text text key) put (get same_text old key) ≡ Some ids → P (key, ids.items)
    by key ids true is found =
        subst (λ one. P (one, ids.items)) ((same_text_decides text key).0 is)
        (own ids (sym (ap (λ b. cond b put (get same_text old key)) is) ∙ found))
    by key ids false is found =
        let was : get same_text old key ≡ Some ids = sym (ap (λ b. cond b put (get same_text old key)) is) ∙ found in
        lookup_all P (shown old.entries) each key ids.items (lookup-shown old.entries key ∙ ap (option_map (λ (one : Vec Id). one.items)) was)

-- the texts that are shown are the keys
pub keys-shown : (rows : List (GroupTextData × Vec Id)) → keys_of (shown rows) ≡ keys_of rows
keys-shown [] = refl
keys-shown (row ∷ rows) = ap (λ keys. row.0 ∷ keys) (keys-shown rows)

-- a text is held if it is found
among-found : (table : Table) (text : GroupTextData) → is_among (keys_of (shown table.entries)) text ≡ is_some (get same_text table text)
among-found table text =
    ap (λ keys. is_among keys text) (keys-shown table.entries) ∙ sym (is_some-lookup (same_text text) table.entries)

-- a text that was put in is held beside the others
pub set-put : (old new : Table) (text : GroupTextData) (ids : Vec Id) → Updated old new text (Some ids) →
    set_of (keys_of (shown new.entries)) ≡ with_text (set_of (keys_of (shown old.entries))) text
set-put old new text ids updated i other = all other i
  where
    put : (b : Bool) (found : Option (Vec Id)) → is_some (cond b (Some ids) found) ≡ (b || is_some found)
    put true found = refl
    put false found = refl

    all : (other : GroupTextData) →
        is_among (keys_of (shown new.entries)) other ≡ (same_text other text || is_among (keys_of (shown old.entries)) other)
    all other =
        among-found new other ∙ ap is_some (updated other) ∙ put (same_text text other) (get same_text old other)
        ∙ ap (λ b. b || is_some (get same_text old other)) (same_text_equivalence.symm text other)
        ∙ ap (λ b. same_text other text || b) (sym (among-found old other))

-- one that was taken out isn't
pub set-taken : (old new : Table) (text : GroupTextData) → Updated old new text None →
    set_of (keys_of (shown new.entries)) ≡ without_text (set_of (keys_of (shown old.entries))) text
set-taken old new text updated i other = all other i
  where
    taken : (b : Bool) (found : Option (Vec Id)) → is_some (cond b None found) ≡ (not b && is_some found)
    taken true found = refl
    taken false found = refl

    all : (other : GroupTextData) →
        is_among (keys_of (shown new.entries)) other ≡ (not (same_text other text) && is_among (keys_of (shown old.entries)) other)
    all other =
        among-found new other ∙ ap is_some (updated other) ∙ taken (same_text text other) (get same_text old other)
        ∙ ap (λ b. not b && is_some (get same_text old other)) (same_text_equivalence.symm text other)
        ∙ ap (λ b. not (same_text other text) && b) (sym (among-found old other))

-- what holds of all of two lists holds of each
all_front : {X : Type 0} (P : X → Type 0) (xs ys : List X) → All P (xs ++ ys) → All P xs
all_front P xs ys each = λ k d inside. subst P (get_or_append_left xs ys d k inside) (each k d (omega (arith, length-append xs ys, inside)))

all_back : {X : Type 0} (P : X → Type 0) (xs ys : List X) → All P (xs ++ ys) → All P ys
all_back P xs ys each = λ k d inside.
    subst P (get_or-append-add xs ys k d) (each (length xs + k) d (omega (arith, length-append xs ys, inside)))

-- and so of joined lists
each_list : (P : Id → Type 0) (lists : List (List Id)) → All P (joined lists) → All (All P) lists
each_list P [] each = All-nil (All P)
each_list P (ids ∷ lists) each =
    All-cons (All P) ids lists (all_front P ids (joined lists) each) (each_list P lists (all_back P ids (joined lists) each))

-- and of the formulas of pairs
each_pair : (P : Id → Type 0) (pairs : List Rails) → All P (ids_of pairs) → All (λ rails. P rails.hi × P rails.lo) pairs
each_pair P [] each = All-nil (λ (rails : Rails). P rails.hi × P rails.lo)
each_pair P (rails ∷ pairs) each =
    let later = All-tail P rails.hi (rails.lo ∷ ids_of pairs) each in
    All-cons (λ (one : Rails). P one.hi × P one.lo) rails pairs
    (All-head P rails.hi (rails.lo ∷ ids_of pairs) each, All-head P rails.lo (ids_of pairs) later)
    (each_pair P pairs (All-tail P rails.lo (ids_of pairs) later))

-- a pair at its new place
abbrev moved_pair : (ℕ → ℕ) → Rails → Rails
moved_pair to rails = record { hi = moved_id to rails.hi; lo = moved_id to rails.lo }

ids_of-moved : (to : ℕ → ℕ) (pairs : List Rails) → map (moved_id to) (ids_of pairs) ≡ ids_of (map (moved_pair to) pairs)
ids_of-moved to [] = refl
ids_of-moved to (rails ∷ pairs) = ap (λ l. moved_id to rails.hi ∷ moved_id to rails.lo ∷ l) (ids_of-moved to pairs)

joined-moved : (moved : Id → Id) (lists : List (List Id)) → map moved (joined lists) ≡ joined (map (map moved) lists)
joined-moved moved [] = refl
joined-moved moved (ids ∷ lists) = map-append moved ids (joined lists) ∙ ap (λ l. map moved ids ++ l) (joined-moved moved lists)

-- what is there after a map was there before
option_map_some : {X Y : Type 0} (f : X → Y) (found : Option X) (y : Y) → option_map f found ≡ Some y →
    (x : X) × (found ≡ Some x) × (f x ≡ y)
option_map_some f None y is = cc
option_map_some f (Some x) y is = (x, refl, cc)

-- some roots reach a gate where those of one of two parts do
reaches_part : (gates : List Gate) (front back : List ℕ) (place : ℕ) → AnyReaches gates (front ++ back) place →
    AnyReaches gates front place ⊎ AnyReaches gates back place
reaches_part gates [] back place any = inr any
reaches_part gates (root ∷ front) back place (inl first) = inl (inl first)
reaches_part gates (root ∷ front) back place (inr any) = elim (reaches_part gates front back place any) [
  | inl before ↦ inl (inr before)
  | inr behind ↦ inr behind
]

-- what the formulas of all texts reach is reached by those of one
reached_in : (gates : List Gate) (held : HeldData) (place : ℕ) → AnyReaches gates (places_of (joined (lists_of held))) place →
    (entry : GroupTextData × List Id) × Contains held entry × AnyReaches gates (places_of entry.1) place
reached_in gates [] place any = absurd any
reached_in gates (entry ∷ held) place any =
    let split = subst (λ roots. AnyReaches gates roots place) (map-append (λ (id : Id). id.place) entry.1 (joined (lists_of held))) any in
    elim (reaches_part gates (places_of entry.1) (places_of (joined (lists_of held))) place split) [
      | inl here ↦ (entry, (0, omega arith, refl), here)
      | inr behind ↦
          let later = reached_in gates held place behind in
          (later.0, (suc later.1.0, omega (arith, later.1.1), later.1.2), later.2)
    ]

module _ (old : List Gate) (held : HeldData) (new : List Gate) (found : List Id)
    (compacted : pool.IsCompacted old (joined (lists_of held)) new found) where
  -- the formula is one that the roots reach
  abbrev IsReached : Id → Type 0
  IsReached id = AnyReaches old (places_of (joined (lists_of held))) id.place

  -- the held formulas at their new places
  abbrev pub moved_held : HeldData
  moved_held = map (λ entry. (entry.0, map (moved_id compacted.to) entry.1)) held

  lists_of-moved : (some : HeldData) →
      lists_of (map (λ entry. (entry.0, map (moved_id compacted.to) entry.1)) some) ≡ map (map (moved_id compacted.to)) (lists_of some)
  lists_of-moved [] = refl
  lists_of-moved (entry ∷ some) = ap (λ l. map (moved_id compacted.to) entry.1 ∷ l) (lists_of-moved some)

  -- each held formula is a root
  lists_reached : All (All IsReached) (lists_of held)
  lists_reached = each_list IsReached (lists_of held) (λ k d inside. root_reached old (joined (lists_of held)) k d inside)

  each_reached : All (λ (entry : GroupTextData × List Id). All IsReached entry.1) held
  each_reached = λ k d inside.
      subst (All IsReached) (get_or-map (λ (entry : GroupTextData × List Id). entry.1) held k d [] inside)
      (lists_reached k [] (omega (arith, length-map held (λ (entry : GroupTextData × List Id). entry.1), inside)))

  -- formulas that the roots reach are formulas of their text at their new places
  formulas-moved : (text : GroupTextData) (ids : List Id) → All IsReached ids → AreFormulasOf old text ids →
      AreFormulasOf new text (map (moved_id compacted.to) ids)
  formulas-moved text ids reached are =
      let to = compacted.to in
      let both = each_pair IsReached are.pairs (subst (All IsReached) are.are reached) in
      record {
        pairs = map (moved_pair to) are.pairs;
        are = ap (map (moved_id to)) are.are ∙ ids_of-moved to are.pairs;
        count = length-map are.pairs (moved_pair to) ∙ are.count;
        inside =
            All-map (AreInside new) (moved_pair to) are.pairs
            (All-weaker (λ (rails : Rails). IsReached rails.hi × IsReached rails.lo) (λ rails. AreInside new (moved_pair to rails))
            (λ rails one. record {
              hi = compacted.copies.inside rails.hi.place one.0;
              lo = compacted.copies.inside rails.lo.place one.1;
            }) are.pairs both);
        responses = λ state vars assigned k rails stands.
            let was = option_map_some (moved_pair to) (slice_get are.pairs k) rails (sym (slice_get-map (moved_pair to) are.pairs k) ∙ stands) in
            let reach = at_place (λ (one : Rails). IsReached one.hi × IsReached one.lo) are.pairs k was.0 both was.1 in
            subst (AreRailsOfResponse text.graph state new vars k) was.2
            (responds_same text.graph state old new vars k was.0 (moved_pair to was.0)
            (compacted.values was.0.hi.place reach.0 vars) (compacted.values was.0.lo.place reach.1 vars)
            (are.responses state vars assigned k was.0 was.1));
      }

  -- so what was held is held
  pub IsHolding-moved : IsHolding old held → IsHolding new moved_held
  IsHolding-moved holding =
      All-map (λ (entry : GroupTextData × List Id). AreFormulasOf new entry.0 entry.1) (λ (entry : GroupTextData × List Id). (entry.0, map (moved_id compacted.to) entry.1)) held
      (λ k d inside. formulas-moved (get_or held k d).0 (get_or held k d).1 (each_reached k d inside) (holding k d inside))

  -- and the new pool has only gates that held formulas reach
  pub IsLean-moved : IsLean new moved_held
  IsLean-moved place inside =
      let roots : found ≡ joined (lists_of moved_held) =
      compacted.moved ∙ joined-moved (moved_id compacted.to) (lists_of held) ∙ ap joined (sym (lists_of-moved held)) in
      reached_in new moved_held place (subst (λ ids. AnyReaches new (places_of ids) place) roots (compacted.used place inside))

  keys-moved : (some : HeldData) → keys_of (map (λ entry. (entry.0, map (moved_id compacted.to) entry.1)) some) ≡ keys_of some
  keys-moved [] = refl
  keys-moved (entry ∷ some) = ap (λ l. entry.0 ∷ l) (keys-moved some)

  -- which keep their values
  pub IsCompacted-moved : (texts : List GroupTextData) →
      IsCompacted (record { texts = texts; gates = old; held = held }) (record { texts = texts; gates = new; held = moved_held })
  IsCompacted-moved texts = record {
    texts = refl;
    held = keys-moved held;
    formulas = λ text ids stands.
        let to = compacted.to in
        let reached = lookup_all (λ (entry : GroupTextData × List Id). All IsReached entry.1) held each_reached text ids stands in (
          map (moved_id to) ids,
          lookup-map_values (map (moved_id to)) (same_text text) held ∙ ap (option_map (map (moved_id to))) stands,
          record {
            count = length-map ids (moved_id to);
            values = λ k d inside vars.
                ap (λ id. value_at new vars id.place) (get_or-map (moved_id to) ids k d d inside)
                ∙ compacted.values (get_or ids k d).place (reached k d inside) vars;
          },
        );
    lean = IsLean-moved;
  }

-- entries with the same texts, and with formulas that are a map of the others', are a map of the others
pub mapped_entries : (moved : Id → Id) (old new : HeldData) → keys_of new ≡ keys_of old → lists_of new ≡ map (map moved) (lists_of old) →
    new ≡ map (λ entry. (entry.0, map moved entry.1)) old
mapped_entries moved [] [] keys lists = refl
mapped_entries moved [] (entry ∷ new) keys lists = cc
mapped_entries moved (entry ∷ old) [] keys lists = cc
mapped_entries moved (first ∷ old) (entry ∷ new) keys lists =
    let own : entry.0 ≡ first.0 = cc in
    let ids : entry.1 ≡ map moved first.1 = cc in
    let more_keys : keys_of new ≡ keys_of old = cc in
    let more_lists : lists_of new ≡ map (map moved) (lists_of old) = cc in
    ap (λ l. entry ∷ l) (mapped_entries moved old new more_keys more_lists)
    ∙ ap (λ one. one ∷ map (λ row. (row.0, map moved row.1)) old) (λ i. (own i, ids i))

-- the formulas of pairs that are inside are inside
ids_inside : (gates : List Gate) (pairs : List Rails) → All (AreInside gates) pairs → All (λ (id : Id). id.place < length gates) (ids_of pairs)
ids_inside gates [] each = All-nil (λ (id : Id). id.place < length gates)
ids_inside gates (rails ∷ pairs) each =
    let P : Id → Type 0 = λ id. id.place < length gates in
    let here = All-head (AreInside gates) rails pairs each in
    All-cons P rails.hi (rails.lo ∷ ids_of pairs) here.hi
    (All-cons P rails.lo (ids_of pairs) here.lo (ids_inside gates pairs (All-tail (AreInside gates) rails pairs each)))

-- all held formulas are formulas of the pool
pub roots_inside : (gates : List Gate) (held : HeldData) → IsHolding gates held →
    All (λ (id : Id). id.place < length gates) (joined (lists_of held))
roots_inside gates [] holding = All-nil (λ (id : Id). id.place < length gates)
roots_inside gates (entry ∷ held) holding =
    let P : Id → Type 0 = λ id. id.place < length gates in
    let here = All-head (λ (one : GroupTextData × List Id). AreFormulasOf gates one.0 one.1) entry held holding in
    All-append P entry.1 (joined (lists_of held))
    (subst (All P) (sym here.are) (ids_inside gates here.pairs here.inside))
    (roots_inside gates held (All-tail (λ (one : GroupTextData × List Id). AreFormulasOf gates one.0 one.1) entry held holding))

module _ (texts : List GroupTextData) (gates : List Gate) (held : HeldData) (roots : List Id) (new : List Gate) (found : List Id)
    (roots_are : roots ≡ joined (lists_of held)) (compacted : pool.IsCompacted gates roots new found) (split : List (List Id))
    (parts : (moved : Id → Id) → found ≡ map moved (joined (lists_of held)) → split ≡ map (map moved) (lists_of held)) where
  at_held : pool.IsCompacted gates (joined (lists_of held)) new found
  at_held = subst (λ some. pool.IsCompacted gates some new found) roots_are compacted

  -- there is a part for each held text
  pub length-split : length split ≡ length held
  length-split =
      ap length (parts (moved_id at_held.to) at_held.moved)
      ∙ length-map (lists_of held) (map (moved_id at_held.to))
      ∙ length-map held (λ (entry : GroupTextData × List Id). entry.1)

  module _ (after : HeldData) (keys : keys_of after ≡ keys_of held) (lists : lists_of after ≡ split) (holding : IsHolding gates held) where
    entries_are : after ≡ moved_held gates held new found at_held
    entries_are = mapped_entries (moved_id at_held.to) held after keys (lists ∙ parts (moved_id at_held.to) at_held.moved)

    -- with the parts in place of the formulas the texts are held in the new pool
    pub IsHolding-split : IsHolding new after
    IsHolding-split = subst (IsHolding new) (sym entries_are) (IsHolding-moved gates held new found at_held holding)

    -- which has only gates that they reach
    pub IsCompacted-split : IsCompacted (record { texts = texts; gates = gates; held = held }) (record { texts = texts; gates = new; held = after })
    IsCompacted-split =
        subst (λ (some : HeldData). IsCompacted (record { texts = texts; gates = gates; held = held }) (record { texts = texts; gates = new; held = some }))
        (sym entries_are) (IsCompacted-moved gates held new found at_held texts)
