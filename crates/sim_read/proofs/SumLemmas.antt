-- Sums by name: one more addition to a name, and the sums of the names of each node, name by name. No sum comes past all that was added.
use Rattle.std.proofs.Common.{◌≡◌, ◌≢◌, ℕ, ◌+◌, ◌*◌, ◌<◌, ◌≤◌, ◌==◌, Bool, true, false, List, [], ◌∷◌, length, take, get_or, bytes_eq, Vec, Option, Some, None, IfSome, unwrap_or, refl, sym, ap, ap₂, subst, ◌∙◌, arith, eqb-true, length-append}
use Rattle.std.specs.Prelude.{if◌then◌else◌, slice_get, slice_set, IfNone}
use Rattle.std.specs.declared.alloc.Global.{Global}
use Rattle.std.specs.Option.{option_map_or}
use Rattle.std.proofs.lemmas.Bool.{eq-eqb}
use Rattle.std.proofs.lemmas.List.{get_or-set_other, get_or-set_same, length-set}
use Rattle.line_words.specs.Points.{thousandths_of}
use Rattle.line_words.specs.Words.{words_of, IsLine}
use Rattle.line_words.specs.Words.IsLine.{empty, blank, last, ended}
use Rattle.line_words.proofs.WordLemmas.{IsLine-words_of}
use Rattle.std.proofs.lemmas.List.Sums.{sum_by-cons, sum_by-le-sum_by, sum_by-take-le, sum_by_push}
use Rattle.std.proofs.lemmas.Slice.Eq.{bytes_eq-Decides}
use Rattle.indexmap.specs.IndexMap.{insert_entry}
use Rattle.netlist.specs.Names.{held, node_of}
use Rattle.netlist.specs.Naming.{entries_of}
use Rattle.netlist.proofs.NamingLemmas.{take-one_more}
use Rattle.sim_read.specs.Capacitances.{AddInAnyOrder, added_among, all_added, is_of, with_both, with_line, with_more, with_value}

-- what a name with its sum adds to a set
abbrev weight : (List ℕ → Bool) → List ℕ × ℕ → ℕ
weight among sum = if among sum.0 then sum.1 else 0

-- ---- one more addition

-- the table with this value at a name
abbrev put : List (Vec ℕ Global × ℕ) → Vec ℕ Global → ℕ → List (Vec ℕ Global × ℕ)
put table name value = insert_entry (λ one two. bytes_eq one.items two.items) table name value

-- the sum of a name, 0 if nothing was added to it
abbrev sum_of : List (Vec ℕ Global × ℕ) → List ℕ → ℕ
sum_of table name = unwrap_or (held (entries_of table) name) 0

-- where the sum of a name and so much more is put at it, so much more is added to it
pub with_more-put : (table : List (Vec ℕ Global × ℕ)) (name : Vec ℕ Global) (more : ℕ)
    → entries_of (insert_entry (λ one two. bytes_eq one.items two.items) table name (unwrap_or (held (entries_of table) name.items) 0 + more))
    ≡ with_more (entries_of table) name.items more
with_more-put [] name more = ap (λ n. (name.items, n) ∷ []) (let e : 0 + more ≡ more = omega arith in e)
with_more-put (entry ∷ table) name more = by (bytes_eq name.items entry.0.items) (with_more-put table name more)
  where
    by : (same : Bool) → entries_of (put table name (sum_of table name.items + more)) ≡ with_more (entries_of table) name.items more
        → entries_of (if same then (entry.0, unwrap_or (if same then Some entry.1 else held (entries_of table) name.items) 0 + more) ∷ table
        else entry ∷ put table name (unwrap_or (if same then Some entry.1 else held (entries_of table) name.items) 0 + more))
        ≡ (if same then (entry.0.items, entry.1 + more) ∷ entries_of table else (entry.0.items, entry.1) ∷ with_more (entries_of table) name.items more)
    by true rest = refl
    by false rest = ap (λ sums. (entry.0.items, entry.1) ∷ sums) rest

-- the same, as the program puts it
pub adds : (old new : List (Vec ℕ Global × ℕ)) (sums : List (List ℕ × ℕ)) (word : Vec ℕ Global) (name : List ℕ) (sum more : ℕ)
    → entries_of old ≡ sums → word.items ≡ name → sum ≡ unwrap_or (held (entries_of old) name) 0
    → new ≡ insert_entry (λ one two. bytes_eq one.items two.items) old word (sum + more) → entries_of new ≡ with_more sums name more
adds old new sums word name sum more seen same was is =
    ap entries_of is
    ∙ ap (λ n. entries_of (put old word (n + more))) (was ∙ ap (λ w. unwrap_or (held (entries_of old) w) 0) (sym same))
    ∙ with_more-put old word more ∙ ap₂ (λ s n. with_more s n more) seen same

-- what is added to a name is added to each set that has it
pub added_among-with_more : (sums : List (List ℕ × ℕ)) (name : List ℕ) (more : ℕ) (among : List ℕ → Bool)
    → added_among (with_more sums name more) among ≡ added_among sums among + (if among name then more else 0)
added_among-with_more [] name more among = omega arith
added_among-with_more (sum ∷ sums) name more among = by (bytes_eq name sum.0) refl (added_among-with_more sums name more among)
  where
    both : (is : Bool) → (if is then sum.1 + more else 0) ≡ (if is then sum.1 else 0) + (if is then more else 0)
    both true = omega arith
    both false = omega arith

    by : (same : Bool) → bytes_eq name sum.0 ≡ same → added_among (with_more sums name more) among ≡ added_among sums among + (if among name then more else 0)
        → added_among (if same then (sum.0, sum.1 + more) ∷ sums else sum ∷ with_more sums name more) among
        ≡ added_among (sum ∷ sums) among + (if among name then more else 0)
    by true is rest =
        let here : sum.0 ≡ name = sym ((bytes_eq-Decides name sum.0).0 is) in
        let new = sum_by-cons (weight among) (sum.0, sum.1 + more) sums in
        let old = sum_by-cons (weight among) sum sums in
        let of_name : (if among sum.0 then more else 0) ≡ (if among name then more else 0) = ap (λ word. if among word then more else 0) here in
        let grows = both (among sum.0) in
        omega arith
    by false is rest =
        let new = sum_by-cons (weight among) sum (with_more sums name more) in
        let old = sum_by-cons (weight among) sum sums in
        omega arith

-- a name's sum is no more than all that was added
pub held-all_added : (entries : List (List ℕ × ℕ)) (name : List ℕ) → unwrap_or (held entries name) 0 ≤ all_added entries
held-all_added [] name = omega arith
held-all_added (entry ∷ entries) name = by (bytes_eq name entry.0) (held-all_added entries name)
  where
    by : (same : Bool) → unwrap_or (held entries name) 0 ≤ all_added entries
        → unwrap_or (if same then Some entry.1 else held entries name) 0 ≤ all_added (entry ∷ entries)
    by true rest = let sum = sum_by-cons (weight (λ word. true)) entry entries in omega arith
    by false rest = let sum = sum_by-cons (weight (λ word. true)) entry entries in omega arith

-- ---- the sums of the names of each node

-- one name more
added_among-more : (entries : List (List ℕ × ℕ)) (place : ℕ) (name : List ℕ) (sum : ℕ) (among : List ℕ → Bool) → slice_get entries place ≡ Some (name, sum)
    → added_among (take (place + 1) entries) among ≡ added_among (take place entries) among + (if among name then sum else 0)
added_among-more entries place name sum among stands =
    ap (λ first. added_among first among) (take-one_more entries place (name, sum) stands)
    ∙ sum_by_push (weight among) (take place entries) (name, sum)

-- the names up to a place bring each node its sum
abbrev pub AreSums : List (List ℕ × ℕ) → List (List ℕ × ℕ) → ℕ → List ℕ → Type 0
AreSums names entries place found = (node : ℕ) → node < length found → get_or found node 0 ≡ added_among (take place entries) (is_of names node)

module _ (names entries : List (List ℕ × ℕ)) (place : ℕ) (found : List ℕ) (name : List ℕ) (sum : ℕ) (stands : slice_get entries place ≡ Some (name, sum)) (are : AreSums names entries place found) where
  -- the sum of a node has room for one more
  pub sum_fits : (node : ℕ) → node < length found → get_or found node 0 + sum ≤ all_added entries
  sum_fits node low =
      let part = sum_by-le-sum_by (weight (is_of names node)) (weight (λ word. true)) (take place entries) (λ entry. at_most entry (is_of names node entry.0)) in
      let more = added_among-more entries place name sum (λ word. true) stands in
      let most = sum_by-take-le (weight (λ word. true)) entries (place + 1) in
      let here = are node low in
      omega arith
    where
      at_most : (entry : List ℕ × ℕ) (is : Bool) → (if is then entry.1 else 0) ≤ entry.1
      at_most entry true = omega arith
      at_most entry false = omega arith

  -- the name is one of a node's
  pub sums-more : (node : ℕ) → node < length found → node_of names name ≡ Some node
      → AreSums names entries (place + 1) (slice_set found node (get_or found node 0 + sum))
  sums-more node low named other inside = by (node == other) refl
    where
      more : added_among (take (place + 1) entries) (is_of names other)
          ≡ added_among (take place entries) (is_of names other) + (if node == other then sum else 0)
      more =
          added_among-more entries place name sum (is_of names other) stands
          ∙ ap (λ found. added_among (take place entries) (is_of names other) + (if option_map_or (λ n. n == other) found false then sum else 0)) named

      size : length (slice_set found node (get_or found node 0 + sum)) ≡ length found
      size = length-set found node (get_or found node 0 + sum)

      by : (same : Bool) → (node == other) ≡ same
          → get_or (slice_set found node (get_or found node 0 + sum)) other 0 ≡ added_among (take (place + 1) entries) (is_of names other)
      by true same =
          let here : node ≡ other = eqb-true node other same in
          let added : (if node == other then sum else 0) ≡ sum = ap (λ is. if is then sum else 0) same in
          let written = get_or-set_same found node (get_or found node 0 + sum) 0 low in
          let old = are node low in
          let moved : get_or (slice_set found node (get_or found node 0 + sum)) other 0 ≡ get_or (slice_set found node (get_or found node 0 + sum)) node 0 =
          ap (λ n. get_or (slice_set found node (get_or found node 0 + sum)) n 0) (sym here) in
          let set : added_among (take place entries) (is_of names other) ≡ added_among (take place entries) (is_of names node) =
          ap (λ n. added_among (take place entries) (is_of names n)) (sym here) in
          omega (arith, more)
      by false same =
          let apart : other ≢ node = λ is. absurd (let e : (node == other) ≡ true = eq-eqb node other (sym is) in cc) in
          let added : (if node == other then sum else 0) ≡ 0 = ap (λ is. if is then sum else 0) same in
          let kept = get_or-set_other found node other (get_or found node 0 + sum) 0 apart in
          let old = are other (omega (arith, size)) in
          omega (arith, more)

  -- the name isn't in use
  pub sums-same : node_of names name ≡ None → AreSums names entries (place + 1) found
  sums-same unused node low =
      let more = added_among-more entries place name sum (is_of names node) stands in
      let none : (if is_of names node name then sum else 0) ≡ 0 = ap (λ found. if option_map_or (λ n. n == node) found false then sum else 0) unused in
      let old = are node low in
      omega arith

-- the sum of the node that is found has room for one more
pub sums-room : (names entries : List (List ℕ × ℕ)) (place : ℕ) (found : Vec ℕ Global) (name : List ℕ) (sum : ℕ)
    → slice_get entries place ≡ Some (name, sum) → AreSums names entries place found.items
    → (at : Option ℕ) (count limit : ℕ) → length found.items ≡ count → IfSome at (λ node. node < count) → all_added entries < limit
    → IfSome at (λ node. get_or found.items node 0 + sum < limit)
sums-room names entries place found name sum stands are None count limit size low fits = tt
sums-room names entries place found name sum stands are (Some node) count limit size low fits =
    let most : get_or found.items node 0 + sum ≤ all_added entries =
    sum_fits names entries place found.items name sum stands are node (omega arith) in
    omega arith

-- with the sum of one name more at the node that is found, if one is, one name more brings each node its sum
pub sums-found : (names entries : List (List ℕ × ℕ)) (place : ℕ) (old new : Vec ℕ Global) (name : List ℕ) (sum : ℕ)
    → slice_get entries place ≡ Some (name, sum) → AreSums names entries place old.items
    → (at : Option ℕ) (count : ℕ) → node_of names name ≡ at → length old.items ≡ count → IfSome at (λ node. node < count)
    → IfSome at (λ node. new.items ≡ slice_set old.items node (get_or old.items node 0 + sum)) → IfNone at (new ≡ old)
    → (length new.items ≡ count) × AreSums names entries (place + 1) new.items
sums-found names entries place old new name sum stands are None count unused size low set kept = (
  ap (λ (v : Vec ℕ Global). length v.items) kept ∙ size,
  subst (λ (v : Vec ℕ Global). AreSums names entries (place + 1) v.items) (sym kept)
      (sums-same names entries place old.items name sum stands are unused),
)
sums-found names entries place old new name sum stands are (Some node) count named size low set kept = (
  ap length set ∙ length-set old.items node (get_or old.items node 0 + sum) ∙ size,
  subst (AreSums names entries (place + 1)) (sym set)
      (sums-more names entries place old.items name sum stands are node (omega arith) named),
)

-- ---- lines

added_among-with_both : (sums : List (List ℕ × ℕ)) (first second : List ℕ) (more : ℕ) (among : List ℕ → Bool)
    → added_among (with_both sums first second more) among ≡ added_among sums among + added_among (with_both [] first second more) among
added_among-with_both sums first second more among = by (bytes_eq first second)
  where
    by : (same : Bool) → added_among (if same then with_more sums first more else with_more (with_more sums first more) second more) among
        ≡ added_among sums among + added_among (if same then with_more [] first more else with_more (with_more [] first more) second more) among
    by true =
        let one = added_among-with_more sums first more among in
        let none = added_among-with_more [] first more among in
        omega arith
    by false =
        let one = added_among-with_more sums first more among in
        let two = added_among-with_more (with_more sums first more) second more among in
        let none = added_among-with_more [] first more among in
        let again = added_among-with_more (with_more [] first more) second more among in
        omega arith

added_among-with_value : (sums : List (List ℕ × ℕ)) (first second : List ℕ) (value : Option ℕ) (among : List ℕ → Bool)
    → added_among (with_value sums first second value) among ≡ added_among sums among + added_among (with_value [] first second value) among
added_among-with_value sums first second None among = omega arith
added_among-with_value sums first second (Some more) among = added_among-with_both sums first second more among

-- a line adds the same whatever was there
added_among-with_line : (sums : List (List ℕ × ℕ)) (words : List (List ℕ)) (among : List ℕ → Bool)
    → added_among (with_line sums words) among ≡ added_among sums among + added_among (with_line [] words) among
added_among-with_line sums [] among = omega arith
added_among-with_line sums (first ∷ []) among = omega arith
added_among-with_line sums (first ∷ second ∷ []) among = omega arith
added_among-with_line sums (first ∷ second ∷ value ∷ words) among = added_among-with_value sums first second (thousandths_of value) among

-- so two lines add the same in either order
pub lines_in_any_order : AddInAnyOrder
lines_in_any_order sums first second among =
    let one = added_among-with_line sums first among in
    let both = added_among-with_line (with_line sums first) second among in
    let other = added_among-with_line sums second among in
    let again = added_among-with_line (with_line sums second) first among in
    omega arith

-- a name more adds no more than this
pub all_added-with_more : (sums : List (List ℕ × ℕ)) (name : List ℕ) (more : ℕ) → all_added (with_more sums name more) ≡ all_added sums + more
all_added-with_more sums name more = added_among-with_more sums name more (λ word. true)

-- ---- what a line adds, by its bytes

-- words take a byte each, and a blank between them
length-words : {line : List ℕ} {words : List (List ℕ)} → IsLine line words → 2 * length words ≤ 1 + length line
length-words empty = omega arith
length-words (blank byte rest words stops more) = omega (arith, length-words more)
length-words (last word is) = let some = is.has_byte in omega arith
length-words (ended word byte rest words is stops more) =
    let some = is.has_byte in
    omega (arith, length-words more, length-append word (byte ∷ rest))

-- so a line has no more words than its bytes and an LF leave room for
pub length-words_of : (line : List ℕ) → 2 * length (words_of line) ≤ 1 + length line
length-words_of line = length-words (IsLine-words_of line)
