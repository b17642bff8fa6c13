-- The lists of formulas in a table: where each stands among all formulas, and what the lists are where one is put in place of another.
use Rattle.std.proofs.Common.{◌≡◌, ℕ, zero, suc, ◌+◌, ◌-◌, ◌<◌, ◌≤◌, List, [], ◌∷◌, ◌++◌, length, map, get_or, take, drop, Some, refl, sym, ap, ◌∙◌, append-nil, length-append, arith}
use Rattle.std.specs.Prelude.{slice_get, slice_range, option_map}
use Rattle.std.specs.Map.{keys_of}
use Rattle.std.specs.Global.{Vec}
use Rattle.std.proofs.Math.ListN.{set}
use Rattle.std.proofs.lemmas.Grind.{flat_map-append}
use Rattle.std.proofs.lemmas.List.{drop_all, drop_at, drop_more, drop-set, get_or-map, get_or-take, get_or_push, length-map, length-take, length_push, map-append, take_all, take_at, take_more, take-append-drop, take-map, take-take}
use Rattle.std.proofs.lemmas.Option.{get_or_from_slice_get, slice_get-map}
use Rattle.indexmap.specs.IndexMap.{set_value_at}
use Rattle.bool_pool.specs.declared.gate.Id.{Id}
use Rattle.group_text.specs.Texts.{GroupTextData}
use Rattle.node_elimination.specs.Holding.{joined}
use Rattle.node_elimination.specs.HeldTable.{lists_of, shown}

-- the rows of a table
abbrev pub Rows : Type 0
Rows = List (GroupTextData × Vec Id)

-- the formulas of the row at a place
pub row_formulas : (rows : Rows) (place : ℕ) (row : GroupTextData × Vec Id) → slice_get rows place ≡ Some row →
    get_or (lists_of (shown rows)) place [] ≡ row.1.items
row_formulas rows place row stands =
    get_or_from_slice_get (lists_of (shown rows)) place row.1.items []
    (slice_get-map (λ (entry : GroupTextData × List Id). entry.1) (shown rows) place
    ∙ ap (option_map (λ (entry : GroupTextData × List Id). entry.1)) (slice_get-map (λ (one : GroupTextData × Vec Id). (one.0, one.1.items)) rows place ∙ ap (option_map (λ (one : GroupTextData × Vec Id). (one.0, one.1.items))) stands))

-- there are as many lists as rows
pub length-lists : (rows : Rows) → length (lists_of (shown rows)) ≡ length rows
length-lists rows = length-map (shown rows) (λ (entry : GroupTextData × List Id). entry.1) ∙ length-map rows (λ (row : GroupTextData × Vec Id). (row.0, row.1.items))

-- other formulas in place of those of a row
pub lists-put : (rows : Rows) (place : ℕ) (ids : Vec Id) →
    lists_of (shown (set_value_at rows place ids)) ≡ set (lists_of (shown rows)) place ids.items
lists-put [] place ids = refl
lists-put (row ∷ rows) zero ids = refl
lists-put (row ∷ rows) (suc place) ids = ap (λ l. row.1.items ∷ l) (lists-put rows place ids)

-- from one place more on the lists are those that are wanted
pub put_more : (lists wanted : List (List Id)) (place : ℕ) (ids : List Id) → place < length lists → place < length wanted →
    get_or wanted place [] ≡ ids → drop (place + 1) lists ≡ drop (place + 1) wanted → drop place (set lists place ids) ≡ drop place wanted
put_more lists wanted place ids inside there is rest =
    drop-set lists place ids inside
    ∙ ap (λ l. ids ∷ l) rest
    ∙ sym (drop_more wanted place [] there ∙ ap (λ one. one ∷ drop (place + 1) wanted) is)

-- one list joined is itself
joined-one : (ids : List Id) → joined (ids ∷ []) ≡ ids
joined-one ids = append-nil ids

-- the lists up to one more
pub joined-more : (lists : List (List Id)) (place : ℕ) → place < length lists →
    joined (take (place + 1) lists) ≡ joined (take place lists) ++ get_or lists place []
joined-more lists place inside =
    ap joined (take_more lists place [] inside)
    ∙ flat_map-append (λ (ids : List Id). ids) (take place lists) (get_or lists place [] ∷ [])
    ∙ ap (λ l. joined (take place lists) ++ l) (joined-one (get_or lists place []))

-- all lists, cut before and behind one
joined-cut : (lists : List (List Id)) (place : ℕ) → place < length lists →
    joined lists ≡ joined (take place lists) ++ (get_or lists place [] ++ joined (drop (place + 1) lists))
joined-cut lists place inside =
    ap joined (sym (take-append-drop place lists))
    ∙ flat_map-append (λ (ids : List Id). ids) (take place lists) (drop place lists)
    ∙ ap (λ l. joined (take place lists) ++ joined l) (drop_more lists place [] inside)

-- so no list ends past the end
pub part_inside : (lists : List (List Id)) (place : ℕ) → place < length lists →
    length (joined (take place lists)) + length (get_or lists place []) ≤ length (joined lists)
part_inside lists place inside =
    omega (
      arith,
      ap length (joined-cut lists place inside),
      length-append (joined (take place lists)) (get_or lists place [] ++ joined (drop (place + 1) lists)),
      length-append (get_or lists place []) (joined (drop (place + 1) lists)),
    )

drop-mapped : (moved : Id → Id) (n : ℕ) (ids : List Id) → drop n (map moved ids) ≡ map moved (drop n ids)
drop-mapped moved zero ids = refl
drop-mapped moved (suc n) [] = refl
drop-mapped moved (suc n) (id ∷ ids) = drop-mapped moved n ids

-- the part of a list among the formulas at their new places
pub part_moved : (moved : Id → Id) (lists : List (List Id)) (place at : ℕ) (found : List Id) → place < length lists →
    at ≡ length (joined (take place lists)) → found ≡ map moved (joined lists) →
    slice_range found at (at + length (get_or lists place [])) ≡ map moved (get_or lists place [])
part_moved moved lists place at found inside begins are =
    let own = get_or lists place [] in
    let behind = joined (drop (place + 1) lists) in
    let count : (at + length own) - at ≡ length own = omega arith in
    ap (λ n. take n (drop at found)) count
    ∙ ap (λ ids. take (length own) (drop at ids)) are
    ∙ ap (take (length own)) (drop-mapped moved at (joined lists))
    ∙ take-map moved (length own) (drop at (joined lists))
    ∙ ap (λ ids. map moved (take (length own) (drop at ids))) (joined-cut lists place inside)
    ∙ ap (λ ids. map moved (take (length own) ids)) (drop_at (joined (take place lists)) (own ++ behind) at (sym begins))
    ∙ ap (map moved) (take_at own behind (length own) refl)

-- of a table whose formulas are put in place from the last text on these are left to put, and the texts behind have theirs
pub record ArePut (first rows : Rows) (fresh left : List (Vec Id)) : Type 0 where
  pub fewer : length left ≤ length rows
  pub front : left ≡ take (length left) fresh
  pub texts : keys_of rows ≡ keys_of first
  pub formulas : drop (length left) (lists_of (shown rows)) ≡ drop (length left) (map (λ ids. ids.items) fresh)

-- at first all are left
pub ArePut-none : (first : Rows) (fresh : List (Vec Id)) → length fresh ≡ length first → ArePut first first fresh fresh
ArePut-none first fresh count =
    record {
      fewer = omega (arith, count);
      front = sym (take_all (length fresh) fresh (omega arith));
      texts = refl;
      formulas =
          drop_all (length fresh) (lists_of (shown first)) (omega (arith, count, length-lists first))
          ∙ sym (drop_all (length fresh) (map (λ ids. ids.items) fresh) (omega (arith, length-map fresh (λ (ids : Vec Id). ids.items))));
    }

-- the last one that is left goes to its text
pub ArePut-more : (first rows : Rows) (fresh left : List (Vec Id)) (ids : Vec Id) → ArePut first rows fresh (left ++ ids ∷ []) →
    ArePut first (set_value_at rows (length left) ids) fresh left
ArePut-more first rows fresh left ids put =
    let n = length left in
    let count : length (left ++ ids ∷ []) ≡ n + 1 = length_push left ids in
    let wanted = map (λ (one : Vec Id). one.items) fresh in
    let inside : n < length (lists_of (shown rows)) = omega (arith, put.fewer, count, length-lists rows) in
    let front : left ++ ids ∷ [] ≡ take (n + 1) fresh = put.front ∙ ap (λ k. take k fresh) count in
    let enough : n + 1 ≤ length fresh = omega (arith, ap length front, count, length-take (n + 1) fresh) in
    let here : get_or fresh n ids ≡ ids =
    sym (get_or-take (n + 1) fresh n ids (omega arith)) ∙ ap (λ l. get_or l n ids) (sym front) ∙ get_or_push left ids ids n refl in
    let is : get_or wanted n [] ≡ ids.items =
    get_or-map (λ (one : Vec Id). one.items) fresh n ids [] (omega (arith, enough)) ∙ ap (λ (one : Vec Id). one.items) here in
    record {
      fewer = omega (arith, length-set_value_at rows n ids, put.fewer, count);
      front =
          sym (take_at left (ids ∷ []) n refl) ∙ ap (take n) front ∙ take-take n (n + 1) fresh (omega arith);
      texts = keys_set rows n ids ∙ put.texts;
      formulas =
          ap (drop n) (lists-put rows n ids)
          ∙ put_more (lists_of (shown rows)) wanted n ids.items inside (omega (arith, enough, length-map fresh (λ (one : Vec Id). one.items))) is
          (ap (λ k. drop k (lists_of (shown rows))) (sym count) ∙ put.formulas ∙ ap (λ k. drop k wanted) count);
    }
  where
    keys_set : (some : Rows) (place : ℕ) (one : Vec Id) → keys_of (set_value_at some place one) ≡ keys_of some
    keys_set [] place one = refl
    keys_set (row ∷ some) zero one = refl
    keys_set (row ∷ some) (suc place) one = ap (λ l. row.0 ∷ l) (keys_set some place one)

    length-set_value_at : (some : Rows) (place : ℕ) (one : Vec Id) → length (set_value_at some place one) ≡ length some
    length-set_value_at [] place one = refl
    length-set_value_at (row ∷ some) zero one = refl
    length-set_value_at (row ∷ some) (suc place) one = ap (λ n. suc n) (length-set_value_at some place one)

-- the formulas of the texts so far were split off, and these are their lists
pub record AreSplit (lists : List (List Id)) (found : List Id) (place at : ℕ) (split : List (List Id)) : Type 0 where
  pub passed : at ≡ length (joined (take place lists))
  pub parts : (moved : Id → Id) → found ≡ map moved (joined lists) → split ≡ map (map moved) (take place lists)

-- with the next list's they go on
pub AreSplit-more : (lists : List (List Id)) (found : List Id) (place at : ℕ) (split next : List (List Id)) (part : List Id) →
    place < length lists → part ≡ get_or lists place [] → next ≡ split ++ slice_range found at (at + length part) ∷ [] →
    AreSplit lists found place at split → AreSplit lists found (place + 1) (at + length part) next
AreSplit-more lists found place at split next part inside own put so_far =
    let count : length part ≡ length (get_or lists place []) = ap length own in
    record {
      passed =
          omega (
            arith,
            so_far.passed,
            count,
            ap length (joined-more lists place inside),
            length-append (joined (take place lists)) (get_or lists place []),
          );
      parts = λ moved are.
          put
          ∙ ap (λ l. l ++ slice_range found at (at + length part) ∷ []) (so_far.parts moved are)
          ∙ ap (λ n. map (map moved) (take place lists) ++ slice_range found at (at + n) ∷ []) count
          ∙ ap (λ one. map (map moved) (take place lists) ++ one ∷ []) (part_moved moved lists place at found inside so_far.passed are)
          ∙ sym (map-append (map moved) (take place lists) (get_or lists place [] ∷ []))
          ∙ ap (map (map moved)) (sym (take_more lists place [] inside));
    }
