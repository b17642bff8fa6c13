-- What was read of a deck while parts come behind others: subcircuits keep their cards.
use Rattle.std.proofs.Common.{◌≡◌, ℕ, ◌+◌, ◌-◌, ◌<◌, ◌≤◌, Bool, true, false, List, [], ◌∷◌, ◌++◌, All, length, map, take, drop, Option, Some, None, Result, Ok, Err, OnOk, OnErr, is_some, option_map, bytes_eq, if◌then◌else◌, refl, sym, ◌∙◌, ap, subst, arith, length-append, length-drop}
use Rattle.std.proofs.lemmas.List.{append-nil, drop-append-le, length-take-le, drop_at, map-append, take-append-le, take_rest}
use Rattle.std.proofs.lemmas.List.Elements.{All-head, All-push, All-tail, All-weaker}
use Rattle.switch_paths.specs.declared.switching.SwitchKind.{SwitchKind}
use Rattle.spice_cards.specs.declared.places.SubcircuitPlace.{SubcircuitPlace}
use Rattle.spice_cards.specs.declared.sorts.PartSort.{PartSort}
use Rattle.spice_cards.specs.CardLines.{head_of}
use Rattle.spice_cards.specs.Decks.{PartCard, SubcircuitCards}
use Rattle.spice_cards.specs.Pools.{PoolData, taken, with_inside, with_outside, with_pending}
use Rattle.spice_cards.specs.Reading.{ReadSoFar, closing_meaning, with_part}
use Rattle.spice_cards.specs.Readings.{IsBegun, IsReading, IsWithin, ReadingData, begun_at, between, name_of, reading_of, subcircuit_of, subcircuits_at, with_words_of}
use Rattle.spice_cards.specs.Tables.{named, with_first}

-- a place within some parts is within more
within-more : (few many : ℕ) → few ≤ many → (entry : List ℕ × SubcircuitPlace) → IsWithin few entry.1 → IsWithin many entry.1
within-more few many more entry is = record { ordered = is.ordered; within = omega (arith, is.within) }

pub IsReading-more : (few many : ℕ) (places : List (List ℕ × SubcircuitPlace)) (start : Option ℕ) → few ≤ many →
    IsReading few places start → IsReading many places start
IsReading-more few many places start more is = record {
  subcircuits =
      All-weaker (λ (entry : List ℕ × SubcircuitPlace). IsWithin few entry.1) (λ (entry : List ℕ × SubcircuitPlace). IsWithin many entry.1)
      (within-more few many more) places is.subcircuits;
  begun = by start is.begun;
}
  where
    by : (start : Option ℕ) → IsBegun few start → IsBegun many start
    by None h = h
    by (Some opening) h = omega arith

-- a subcircuit keeps its cards where more come behind them
between-more : (inside more : List PartCard) (place : SubcircuitPlace) → IsWithin (length inside) place →
    between (inside ++ more) place ≡ between inside place
between-more inside more place is =
    let behind : drop place.opening (inside ++ more) ≡ drop place.opening inside ++ more = drop-append-le place.opening inside more (omega (arith, is.ordered, is.within)) in
    ap (take (place.end - place.opening)) behind
    ∙ take-append-le (place.end - place.opening) (drop place.opening inside) more (omega (arith, length-drop place.opening inside, is.within))

pub subcircuits_at-more : (inside more : List PartCard) (places : List (List ℕ × SubcircuitPlace)) →
    All (λ entry. IsWithin (length inside) entry.1) places → subcircuits_at (inside ++ more) places ≡ subcircuits_at inside places
subcircuits_at-more inside more [] are = refl
subcircuits_at-more inside more (entry ∷ places) are =
    let is = λ (e : List ℕ × SubcircuitPlace). IsWithin (length inside) e.1 in
    let own = between-more inside more entry.1 (All-head is entry places are) in
    ap (λ cards. (entry.0, subcircuit_of cards) ∷ subcircuits_at (inside ++ more) places) own
    ∙ ap (λ others. (entry.0, subcircuit_of (between inside entry.1)) ∷ others) (subcircuits_at-more inside more places (All-tail is entry places are))

-- a part behind the cards of a subcircuit is one more of its parts
grown : (cards : List PartCard) (part : PartCard) → 0 < length cards →
    (name_of (cards ++ part ∷ []) ≡ name_of cards)
    × (subcircuit_of (cards ++ part ∷ []) ≡ record (subcircuit_of cards) { parts = (subcircuit_of cards).parts ++ part ∷ [] })
grown [] part some = absurd (omega arith)
grown (opening ∷ cards) part some = (refl, refl)

-- the subcircuit that has begun gets a part
begun_at-more : (inside : List PartCard) (part : PartCard) (opening : ℕ) → opening < length inside →
    begun_at (inside ++ part ∷ []) (Some opening)
    ≡ Some (name_of (drop opening inside), record (subcircuit_of (drop opening inside)) { parts = (subcircuit_of (drop opening inside)).parts ++ part ∷ [] })
begun_at-more inside part opening low =
    let behind : drop opening (inside ++ part ∷ []) ≡ drop opening inside ++ part ∷ [] = drop-append-le opening inside (part ∷ []) (omega arith) in
    let both = grown (drop opening inside) part (omega (arith, length-drop opening inside)) in
    ap (λ cards. Some (name_of cards, subcircuit_of cards)) behind
    ∙ ap (λ name. Some (name, subcircuit_of (drop opening inside ++ part ∷ []))) both.0
    ∙ ap (λ cards. Some (name_of (drop opening inside), cards)) both.1

-- what was read with one more part of the subcircuit that has begun
grown_inside : (pool next : PoolData) (places : List (List ℕ × SubcircuitPlace)) (models : List (List ℕ × SwitchKind))
    (globals : List (List ℕ × Unit {0})) (opening : ℕ) (has_card : Bool) (before : ReadingData) (line : ℕ) (sort : PartSort) (words : List (List ℕ)) →
    IsReading (length pool.inside) places (Some opening) → next ≡ with_inside pool (record { line = line; sort = sort; words = words }) →
    reading_of pool places models globals (Some opening) has_card ≡ before →
    (reading_of next places models globals (Some opening) has_card).so_far ≡ with_part before.so_far line sort words
grown_inside pool next places models globals opening has_card before line sort words is added seen =
    let part : PartCard = record { line = line; sort = sort; words = words } in
    let subcircuits = subcircuits_at-more pool.inside (part ∷ []) places is.subcircuits in
    let begun = begun_at-more pool.inside part opening is.begun in
    let grown : (reading_of (with_inside pool part) places models globals (Some opening) has_card).so_far
    ≡ with_part (reading_of pool places models globals (Some opening) has_card).so_far line sort words =
    λ j. record {
      deck = record { outside = pool.outside; subcircuits = subcircuits j; models = models; globals = globals };
      begun = begun j;
      has_card = has_card;
    } in
    ap (λ (p : PoolData). (reading_of p places models globals (Some opening) has_card).so_far) added
    ∙ grown ∙ ap (λ (r : ReadingData). with_part r.so_far line sort words) seen

pub kept_inside : {T E : Type 0} (result : Result T E) (pool next : PoolData) (places : List (List ℕ × SubcircuitPlace)) (models : List (List ℕ × SwitchKind))
    (globals : List (List ℕ × Unit {0})) (start : Option ℕ) (opening : ℕ) (has_card : Bool) (before : ReadingData) (line : ℕ) (sort : PartSort) (count : ℕ) →
    start ≡ Some opening → IsReading (length pool.inside) places start → reading_of pool places models globals start has_card ≡ before →
    OnOk result (next ≡ with_inside pool (record { line = line; sort = sort; words = take count pool.pending })) →
    OnOk result ((reading_of next places models globals start has_card).so_far ≡ with_part before.so_far line sort (take count before.pending))
kept_inside (Err e) pool next places models globals start opening has_card before line sort count started is seen added = tt
kept_inside (Ok u) pool next places models globals start opening has_card before line sort count started is seen added =
    let whole : (start : Option ℕ) → start ≡ Some opening → IsReading (length pool.inside) places start → reading_of pool places models globals start has_card ≡ before →
    (reading_of next places models globals start has_card).so_far ≡ with_part before.so_far line sort (take count before.pending) =
    λ start started. subst
    (λ (s : Option ℕ). IsReading (length pool.inside) places s → reading_of pool places models globals s has_card ≡ before →
    (reading_of next places models globals s has_card).so_far ≡ with_part before.so_far line sort (take count before.pending))
    (sym started)
    (λ is seen. grown_inside pool next places models globals opening has_card before line sort (take count pool.pending) is added seen
    ∙ ap (λ (r : ReadingData). with_part before.so_far line sort (take count r.pending)) seen) in
    whole start started is seen

-- what was read with a subcircuit that begins
pub begun_inside : (pool next : PoolData) (places : List (List ℕ × SubcircuitPlace)) (models : List (List ℕ × SwitchKind))
    (globals : List (List ℕ × Unit {0})) (start : Option ℕ) (opening : ℕ) (has_card : Bool) (before : ReadingData) (line : ℕ) (sort : PartSort) (count : ℕ) →
    opening ≡ length pool.inside → IsReading (length pool.inside) places start → reading_of pool places models globals start has_card ≡ before →
    next ≡ with_inside pool (record { line = line; sort = sort; words = take count pool.pending }) →
    (reading_of next places models globals (Some opening) has_card).so_far ≡ record before.so_far {
      begun = Some (head_of (drop 1 (take count before.pending)), record { line = line; ports = drop 2 (take count before.pending); parts = [] });
    }
begun_inside pool next places models globals start opening has_card before line sort count last is seen added =
    let part : PartCard = record { line = line; sort = sort; words = take count pool.pending } in
    let subcircuits = subcircuits_at-more pool.inside (part ∷ []) places is.subcircuits in
    let alone : drop opening (pool.inside ++ part ∷ []) ≡ part ∷ [] = drop_at pool.inside (part ∷ []) opening (sym last) in
    let begun : begun_at (pool.inside ++ part ∷ []) (Some opening) ≡ Some (name_of (part ∷ []), subcircuit_of (part ∷ [])) =
    ap (λ cards. Some (name_of cards, subcircuit_of cards)) alone in
    let grown : (reading_of (with_inside pool part) places models globals (Some opening) has_card).so_far
    ≡ record (reading_of pool places models globals start has_card).so_far { begun = Some (name_of (part ∷ []), subcircuit_of (part ∷ [])) } =
    λ j. record {
      deck = record { outside = pool.outside; subcircuits = subcircuits j; models = models; globals = globals };
      begun = begun j;
      has_card = has_card;
    } in
    ap (λ (p : PoolData). (reading_of p places models globals (Some opening) has_card).so_far) added ∙ grown
    ∙ ap (λ (r : ReadingData). record r.so_far {
      begun = Some (head_of (drop 1 (take count r.pending)), record { line = line; ports = drop 2 (take count r.pending); parts = [] });
    }) seen

-- what a name stands for in a table whose entries are changed alike
pub named-map : {T U : Type 0} (f : T → U) (entries : List (List ℕ × T)) (name : List ℕ) →
    named (map (λ entry. (entry.0, f entry.1)) entries) name ≡ option_map f (named entries name)
named-map f [] name = refl
named-map f (entry ∷ entries) name = by (bytes_eq name entry.0) (named-map f entries name)
  where
    by : (same : Bool) → named (map (λ entry. (entry.0, f entry.1)) entries) name ≡ option_map f (named entries name) →
        (if same then Some (f entry.1) else named (map (λ entry. (entry.0, f entry.1)) entries) name)
        ≡ option_map f (if same then Some entry.1 else named entries name)
    by true later = refl
    by false later = later

is_some-option_map : {T U : Type 0} (f : T → U) (found : Option T) → is_some (option_map f found) ≡ is_some found
is_some-option_map f None = refl
is_some-option_map f (Some x) = refl

-- a name stands for a subcircuit exactly if it stands for a place
pub is_some-named : (inside : List PartCard) (places : List (List ℕ × SubcircuitPlace)) (name : List ℕ) →
    is_some (named (subcircuits_at inside places) name) ≡ is_some (named places name)
is_some-named inside places name =
    let f = λ (place : SubcircuitPlace). subcircuit_of (between inside place) in
    ap is_some (named-map f places name) ∙ is_some-option_map f (named places name)

-- the table with a subcircuit, unless the name stands for one
pub subcircuits_at-with_first : (inside : List PartCard) (places : List (List ℕ × SubcircuitPlace)) (name : List ℕ) (place : SubcircuitPlace) →
    subcircuits_at inside (with_first places name place) ≡ with_first (subcircuits_at inside places) name (subcircuit_of (between inside place))
subcircuits_at-with_first inside places name place =
    by (is_some (named places name))
    ∙ ap (λ found. if found then subcircuits_at inside places else subcircuits_at inside places ++ (name, subcircuit_of (between inside place)) ∷ [])
    (sym (is_some-named inside places name))
  where
    by : (found : Bool) → subcircuits_at inside (if found then places else places ++ (name, place) ∷ [])
        ≡ (if found then subcircuits_at inside places else subcircuits_at inside places ++ (name, subcircuit_of (between inside place)) ∷ [])
    by true = refl
    by false = map-append (λ entry. (entry.0, subcircuit_of (between inside entry.1))) places ((name, place) ∷ [])

-- all places are within with one more that is
pub IsReading-ended : (count : ℕ) (places : List (List ℕ × SubcircuitPlace)) (start : Option ℕ) (name : List ℕ) (place : SubcircuitPlace) →
    IsReading count places start → IsWithin count place → IsReading count (with_first places name place) start
IsReading-ended count places start name place is within = record { subcircuits = by (is_some (named places name)); begun = is.begun }
  where
    by : (found : Bool) → All (λ entry. IsWithin count entry.1) (if found then places else places ++ (name, place) ∷ [])
    by true = is.subcircuits
    by false = All-push (λ (entry : List ℕ × SubcircuitPlace). IsWithin count entry.1) places (name, place) is.subcircuits within

-- the cards from the `.subckt` on to the last are those of the subcircuit that has begun
pub between-last : (inside : List PartCard) (place : SubcircuitPlace) → place.end ≡ length inside → between inside place ≡ drop place.opening inside
between-last inside place last = ap (λ n. take (n - place.opening) (drop place.opening inside)) last ∙ take_rest inside place.opening

-- what is read stays well formed where the pool got a part inside, or didn't out of memory
pub IsReading-inside : {T E : Type 0} (result : Result T E) (pool next : PoolData) (part : PartCard) (places : List (List ℕ × SubcircuitPlace)) (start : Option ℕ) →
    OnErr result (next ≡ pool) → OnOk result (next ≡ with_inside pool part) → IsReading (length pool.inside) places start →
    IsReading (length next.inside) places start
IsReading-inside (Err e) pool next part places start same added is = subst (λ (p : PoolData). IsReading (length p.inside) places start) (sym same) is
IsReading-inside (Ok u) pool next part places start same added is =
    subst (λ (p : PoolData). IsReading (length p.inside) places start) (sym added)
    (IsReading-more (length pool.inside) (length (pool.inside ++ part ∷ [])) places start (omega (arith, length-append pool.inside (part ∷ []))) is)

-- or outside
pub IsReading-outside : {T E : Type 0} (result : Result T E) (pool next : PoolData) (part : PartCard) (places : List (List ℕ × SubcircuitPlace)) (start : Option ℕ) →
    OnErr result (next ≡ pool) → OnOk result (next ≡ with_outside pool part) → IsReading (length pool.inside) places start →
    IsReading (length next.inside) places start
IsReading-outside (Err e) pool next part places start same added is = subst (λ (p : PoolData). IsReading (length p.inside) places start) (sym same) is
IsReading-outside (Ok u) pool next part places start same added is = subst (λ (p : PoolData). IsReading (length p.inside) places start) (sym added) is

-- what was read when the subcircuit ends that has begun
ended_at : (pool : PoolData) (places ended : List (List ℕ × SubcircuitPlace)) (models : List (List ℕ × SwitchKind)) (globals : List (List ℕ × Unit {0}))
    (opening : ℕ) (has_card : Bool) (name : List ℕ) (place : SubcircuitPlace) →
    place.opening ≡ opening → place.end ≡ length pool.inside → name ≡ name_of (drop opening pool.inside) → ended ≡ with_first places name place →
    closing_meaning (reading_of pool places models globals (Some opening) has_card).so_far (begun_at pool.inside (Some opening))
    ≡ Ok (reading_of pool ended models globals None has_card).so_far
ended_at pool places ended models globals opening has_card name place here last named_so put =
    let cards : between pool.inside place ≡ drop opening pool.inside =
    between-last pool.inside place last ∙ ap (λ n. drop n pool.inside) here in
    let subcircuits : subcircuits_at pool.inside ended
    ≡ with_first (subcircuits_at pool.inside places) (name_of (drop opening pool.inside)) (subcircuit_of (drop opening pool.inside)) =
    ap (subcircuits_at pool.inside) put ∙ subcircuits_at-with_first pool.inside places name place
    ∙ ap (λ (cards : List PartCard). with_first (subcircuits_at pool.inside places) name (subcircuit_of cards)) cards
    ∙ ap (λ (n : List ℕ). with_first (subcircuits_at pool.inside places) n (subcircuit_of (drop opening pool.inside))) named_so in
    λ j. Ok (record {
      deck = record { outside = pool.outside; subcircuits = sym subcircuits j; models = models; globals = globals };
      begun = None;
      has_card = has_card;
    })

pub ended_reading : (pool : PoolData) (places ended : List (List ℕ × SubcircuitPlace)) (models : List (List ℕ × SwitchKind)) (globals : List (List ℕ × Unit {0}))
    (start : Option ℕ) (opening : ℕ) (has_card : Bool) (before : ReadingData) (parts : List PartCard) (name : List ℕ) (place : SubcircuitPlace) (end : ℕ) →
    start ≡ Some opening → reading_of pool places models globals start has_card ≡ before → place.opening ≡ opening → place.end ≡ end → end ≡ length pool.inside →
    parts ≡ take (end - opening) (drop opening pool.inside) → name ≡ name_of parts → ended ≡ with_first places name place →
    closing_meaning before.so_far before.so_far.begun ≡ Ok (reading_of pool ended models globals None has_card).so_far
ended_reading pool places ended models globals start opening has_card before parts name place end started seen here at_end last are named_so put =
    let all : take (end - opening) (drop opening pool.inside) ≡ drop opening pool.inside =
    ap (λ n. take (n - opening) (drop opening pool.inside)) last ∙ take_rest pool.inside opening in
    ap (λ (r : ReadingData). closing_meaning r.so_far r.so_far.begun) (sym seen)
    ∙ ap (λ (s : Option ℕ). closing_meaning (reading_of pool places models globals s has_card).so_far (begun_at pool.inside s)) started
    ∙ ended_at pool places ended models globals opening has_card name place here (at_end ∙ last) (named_so ∙ ap name_of (are ∙ all)) put

-- all words are taken where those that set parameters are too
all_taken : (words : List (List ℕ)) → taken false words ≡ words
all_taken [] = refl
all_taken (word ∷ words) = ap (λ ws. word ∷ ws) (all_taken words)

-- what was read with the words of another card pending
pub collected : {T E : Type 0} (result : Result T E) (pool next : PoolData) (places : List (List ℕ × SubcircuitPlace)) (models : List (List ℕ × SwitchKind))
    (globals : List (List ℕ × Unit {0})) (start : Option ℕ) (has_card : Bool) (before : ReadingData) (words : List (List ℕ)) →
    OnOk result (next ≡ with_pending pool (taken false words)) → reading_of pool places models globals start has_card ≡ before →
    OnOk result (reading_of next places models globals start has_card ≡ with_words_of before words)
collected (Err e) pool next places models globals start has_card before words added seen = tt
collected (Ok u) pool next places models globals start has_card before words added seen =
    ap (λ (p : PoolData). reading_of p places models globals start has_card) (added ∙ ap (with_pending pool) (all_taken words))
    ∙ ap (λ (r : ReadingData). with_words_of r words) seen

same_value : {T : Type 0} (one other : T) → Some one ≡ Some other → one ≡ other
same_value one other same = cc

-- what a name stands for is as all entries are
pub named-All : {T : Type 0} (P : T → Type 0) (entries : List (List ℕ × T)) (name : List ℕ) (value : T) →
    All (λ entry. P entry.1) entries → named entries name ≡ Some value → P value
named-All {T} P [] name value are found = absurd (cc)
named-All {T} P (entry ∷ entries) name value are found =
    by (bytes_eq name entry.0) found (named-All P entries name value (All-tail (λ (e : List ℕ × T). P e.1) entry entries are))
  where
    by : (same : Bool) → (if same then Some entry.1 else named entries name) ≡ Some value → (named entries name ≡ Some value → P value) → P value
    by true here later = subst P (same_value entry.1 value here) (All-head (λ (e : List ℕ × T). P e.1) entry entries are)
    by false here later = later here

-- what a name stands for, by the place that it has
pub named_at : (inside : List PartCard) (places : List (List ℕ × SubcircuitPlace)) (name : List ℕ) (found : Option SubcircuitPlace)
    (subcircuits : List (List ℕ × SubcircuitCards)) → found ≡ named places name → subcircuits_at inside places ≡ subcircuits →
    option_map (λ place. subcircuit_of (between inside place)) found ≡ named subcircuits name
named_at inside places name found subcircuits finds are =
    let f = λ (place : SubcircuitPlace). subcircuit_of (between inside place) in
    ap (option_map f) finds ∙ sym (named-map f places name) ∙ ap (λ (s : List (List ℕ × SubcircuitCards)). named s name) are

-- a subcircuit has its `.subckt` card
pub between-some : (inside : List PartCard) (place : SubcircuitPlace) → IsWithin (length inside) place → 0 < length (between inside place)
between-some inside place is =
    let all : length (take (place.end - place.opening) (drop place.opening inside)) ≡ place.end - place.opening =
    length-take-le (place.end - place.opening) (drop place.opening inside) (omega (arith, length-drop place.opening inside, is.within)) in
    omega (arith, all, is.ordered)
