-- What words come to, part by part: a list takes them one after another, up to the first that has a fault.
use Rattle.std.proofs.Common.{◌≡◌, ℕ, zero, suc, ◌+◌, ◌-◌, ◌<◌, ◌≤◌, Bool, true, false, ◌==◌, ◌&&◌, ◌||◌, List, [], ◌∷◌, ◌++◌, length, map, replicate, get_or, slice_set, nat_lt, Option, Some, None, Result, Ok, Err, inl, inr, refl, sym, ap, ◌∙◌, subst, arith, append_assoc, length-append, length-set, if◌then◌else◌}
use Rattle.std.specs.List.{filter, flat_map, range_with_len}
use Rattle.std.proofs.lemmas.Bool.{cases_eq, cond-true, cond-false, lt-ltb, ltb-true, and_parts, and_from, and_left, and_right, or_right, eq-eqb, ne_eqb}
use Rattle.std.proofs.lemmas.List.{append-nil, get_or-set_same, get_or-set_other, length-replicate, get_or-replicate}
use Rattle.std.proofs.lemmas.List.Folds.{list_any-append}
use Rattle.netlist.specs.Circuits.{CircuitData}
use Rattle.node_words.specs.declared.fault.VectorFault.{VectorFault}
use Rattle.node_words.specs.declared.fault.VectorFault.TheVariants.{TooMany}
use Rattle.node_words.specs.Patterns.{matches}
use Rattle.node_words.specs.Ranges.{RangeData, count_between, word_at, words_in}
use Rattle.node_words.specs.Words.{AreMarks, Part, by_range, fault_in, first_of_faults, has_match, nodes_in, nodes_of, part_fault, parts, plain, range_of, unless_fault, with_part, with_parts}
use Rattle.node_words.specs.Words.Part.{TooDeep}

-- what comes of a list, unless it has a fault
abbrev pub onward : Result (List ℕ) VectorFault → (List ℕ → Result (List ℕ) VectorFault) → Result (List ℕ) VectorFault
onward (Ok list) next = next list
onward (Err fault) next = Err fault

-- a list with no more parts
pub with_parts-none : (list : List ℕ) → with_parts list [] ≡ Ok list
with_parts-none list = ap Ok (append-nil list)

-- a list takes the first part, and then the others
pub with_parts-cons : (list : List ℕ) (part : Part) (all : List Part) →
    with_parts list (part ∷ all) ≡ onward (with_part list part) (λ more. with_parts more all)
with_parts-cons list part all = by (part_fault (length list) part)
  where
    by : (fault : Option VectorFault) →
        unless_fault (first_of_faults fault (fault_in (length list + length (nodes_of part)) all)) (list ++ (nodes_of part ++ nodes_in all))
        ≡ onward (unless_fault fault (list ++ nodes_of part)) (λ more. with_parts more all)
    by (Some fault) = refl
    by None =
        ap (λ count. unless_fault (fault_in count all) (list ++ (nodes_of part ++ nodes_in all))) (sym (length-append list (nodes_of part)))
        ∙ ap (unless_fault (fault_in (length (list ++ nodes_of part)) all)) (sym (append_assoc list (nodes_of part) (nodes_in all)))

onward-onward : (made : Result (List ℕ) VectorFault) (one other : List ℕ → Result (List ℕ) VectorFault) →
    onward (onward made one) other ≡ onward made (λ list. onward (one list) other)
onward-onward (Ok list) one other = refl
onward-onward (Err fault) one other = refl

onward-same : (made : Result (List ℕ) VectorFault) (one other : List ℕ → Result (List ℕ) VectorFault) →
    ((list : List ℕ) → one list ≡ other list) → onward made one ≡ onward made other
onward-same (Ok list) one other same = same list
onward-same (Err fault) one other same = refl

-- parts in two runs
pub with_parts-append : (list : List ℕ) (one other : List Part) →
    with_parts list (one ++ other) ≡ onward (with_parts list one) (λ more. with_parts more other)
with_parts-append list [] other = ap (λ made. onward made (λ more. with_parts more other)) (sym (with_parts-none list))
with_parts-append list (part ∷ one) other =
    with_parts-cons list part (one ++ other)
    ∙ onward-same (with_part list part) (λ more. with_parts more (one ++ other)) (λ more. onward (with_parts more one) (λ last. with_parts last other))
    (λ more. with_parts-append more one other)
    ∙ sym (onward-onward (with_part list part) (λ more. with_parts more one) (λ last. with_parts last other))
    ∙ ap (λ made. onward made (λ last. with_parts last other)) (sym (with_parts-cons list part one))

-- one part alone
pub with_parts-single : (list : List ℕ) (part : Part) → with_parts list (part ∷ []) ≡ with_part list part
with_parts-single list part = with_parts-cons list part [] ∙ by (with_part list part)
  where
    by : (made : Result (List ℕ) VectorFault) → onward made (λ more. with_parts more []) ≡ made
    by (Ok more) = with_parts-none more
    by (Err fault) = refl

-- once some parts were taken, the list so far takes the others
pub with_parts-on : (list more : List ℕ) (one other : List Part) → with_parts list one ≡ Ok more → with_parts list (one ++ other) ≡ with_parts more other
with_parts-on list more one other made =
    with_parts-append list one other ∙ ap (λ made. onward made (λ last. with_parts last other)) made

-- once some have a fault, all have it
pub with_parts-fault : (list : List ℕ) (one other : List Part) (fault : VectorFault) → with_parts list one ≡ Err fault →
    with_parts list (one ++ other) ≡ Err fault
with_parts-fault list one other fault made =
    with_parts-append list one other ∙ ap (λ made. onward made (λ last. with_parts last other)) made

-- the places that are left of so many
pub range_with_len-step : (place count : ℕ) → place < count →
    range_with_len place (count - place) ≡ place ∷ range_with_len (place + 1) (count - (place + 1))
range_with_len-step place count inside =
    let more : count - place ≡ suc (count - (place + 1)) = omega arith in
    ap (range_with_len place) more

-- none are left of as many
pub range_with_len-done : (place count : ℕ) → count ≤ place → range_with_len place (count - place) ≡ []
range_with_len-done place count past = let none : count - place ≡ 0 = omega arith in ap (range_with_len place) none

-- the words that are left of a range, from a place on
abbrev pub words_from : RangeData → ℕ → List (List ℕ)
words_from range place = map (word_at range) (range_with_len place (count_between range.first range.last - place))

-- at the start all are left
pub words_from-all : (range : RangeData) → words_from range 0 ≡ words_in range
words_from-all range =
    let all : count_between range.first range.last - 0 ≡ count_between range.first range.last = omega arith in
    ap (λ count. map (word_at range) (range_with_len 0 count)) all

-- one more was taken
pub words_from-step : (range : RangeData) (place : ℕ) → place < count_between range.first range.last →
    words_from range place ≡ word_at range place ∷ words_from range (place + 1)
words_from-step range place inside = ap (map (word_at range)) (range_with_len-step place (count_between range.first range.last) inside)

-- none are left
pub words_from-done : (range : RangeData) (place : ℕ) → count_between range.first range.last ≤ place → words_from range place ≡ []
words_from-done range place past = ap (map (word_at range)) (range_with_len-done place (count_between range.first range.last) past)

-- a word that has no range, or is a name, comes to itself
pub parts-plain : (c : CircuitData) (vectors : List (List ℕ × List ℕ)) (left : ℕ) (word : List ℕ) → range_of c vectors word ≡ None →
    parts c vectors left word ≡ plain c vectors word ∷ []
unfolding parts
parts-plain c vectors zero word none = ap (by_range (plain c vectors word) (λ range. TooDeep ∷ [])) none
parts-plain c vectors (suc left) word none =
    ap (by_range (plain c vectors word) (λ range. flat_map (parts c vectors left) (words_in range))) none

-- a word with a range that is too deep
pub parts-deep : (c : CircuitData) (vectors : List (List ℕ × List ℕ)) (left : ℕ) (word : List ℕ) (range : RangeData) → left ≡ 0 →
    range_of c vectors word ≡ Some range → parts c vectors left word ≡ TooDeep ∷ []
unfolding parts
parts-deep c vectors zero word range deep some = ap (by_range (plain c vectors word) (λ range. TooDeep ∷ [])) some
parts-deep c vectors (suc left) word range deep some = absurd (omega arith)

-- a word with a range comes to what its words come to
pub parts-range : (c : CircuitData) (vectors : List (List ℕ × List ℕ)) (left : ℕ) (word : List ℕ) (range : RangeData) → 0 < left →
    range_of c vectors word ≡ Some range → parts c vectors left word ≡ flat_map (parts c vectors (left - 1)) (words_in range)
unfolding parts
parts-range c vectors zero word range some_left some = absurd (omega arith)
parts-range c vectors (suc left) word range some_left some =
    let less : left ≡ suc left - 1 = omega arith in
    ap (by_range (plain c vectors word) (λ range. flat_map (parts c vectors left) (words_in range))) some
    ∙ ap (λ n. flat_map (parts c vectors n) (words_in range)) less

-- no names are matched
pub AreMarks-none : (pattern : List ℕ) (count : ℕ) → AreMarks [] pattern count (replicate count false)
AreMarks-none pattern count = record {
  long = length-replicate count false;
  each = λ node inside. get_or-replicate count node false false inside;
}

has_match-more : (names : List (List ℕ × ℕ)) (pattern name : List ℕ) (node other : ℕ) →
    has_match (names ++ (name, node) ∷ []) pattern other ≡ (has_match names pattern other || (node == other && matches pattern name))
has_match-more names pattern name node other =
    list_any-append (λ (entry : List ℕ × ℕ). entry.1 == other && matches pattern entry.0) names ((name, node) ∷ [])
    ∙ ap (λ test. has_match names pattern other || test) (none (node == other && matches pattern name))
  where
    none : (test : Bool) → (test || false) ≡ test
    none true = refl
    none false = refl

-- one more name that is matched marks its node
pub AreMarks-matched : (names : List (List ℕ × ℕ)) (pattern : List ℕ) (count : ℕ) (marks : List Bool) (name : List ℕ) (node : ℕ) →
    AreMarks names pattern count marks → node < count → matches pattern name ≡ true →
    AreMarks (names ++ (name, node) ∷ []) pattern count (slice_set marks node true)
AreMarks-matched names pattern count marks name node are inside passes = record {
  long = length-set marks node true ∙ are.long;
  each = λ other low. elim (cases_eq other node) [
    | inl same ↦
        let is_set : get_or (slice_set marks node true) other false ≡ true =
        subst (λ n. get_or (slice_set marks node true) n false ≡ true) (sym same) (get_or-set_same marks node true false (omega (arith, are.long))) in
        let has : (node == other && matches pattern name) ≡ true = and_from (node == other) (matches pattern name) (eq-eqb node other (sym same)) passes in
        is_set ∙ sym (has_match-more names pattern name node other ∙ or_right (has_match names pattern other) _ has)
    | inr apart ↦
        let no_other : (node == other && matches pattern name) ≡ false =
        and_left (node == other) (matches pattern name) (ne_eqb node other (λ same. apart (sym same))) in
        get_or-set_other marks node other true false apart
        ∙ are.each other low
        ∙ sym (has_match-more names pattern name node other ∙ ap (λ test. has_match names pattern other || test) no_other ∙ or_none (has_match names pattern other))
  ];
}
  where
    or_none : (test : Bool) → (test || false) ≡ test
    or_none true = refl
    or_none false = refl

-- and one that isn't, or whose node is none of these, marks none
pub AreMarks-other : (names : List (List ℕ × ℕ)) (pattern : List ℕ) (count : ℕ) (marks : List Bool) (name : List ℕ) (node : ℕ) →
    AreMarks names pattern count marks → (node < count → matches pattern name ≡ false) →
    AreMarks (names ++ (name, node) ∷ []) pattern count marks
AreMarks-other names pattern count marks name node are other_name = record {
  long = are.long;
  each = λ other low. are.each other low ∙ sym (has_match-more names pattern name node other ∙ ap (λ test. has_match names pattern other || test) (differs other low) ∙ or_none (has_match names pattern other));
}
  where
    or_none : (test : Bool) → (test || false) ≡ test
    or_none true = refl
    or_none false = refl

    differs : (other : ℕ) → other < count → (node == other && matches pattern name) ≡ false
    differs other low =
        elim (cases_eq node other) [
          | inl same ↦ and_right (node == other) (matches pattern name) (other_name (omega arith))
          | inr apart ↦ and_left (node == other) (matches pattern name) (ne_eqb node other apart)
        ]

-- a name marks its node, or none, as the test of both says
pub AreMarks-more : (names : List (List ℕ × ℕ)) (pattern : List ℕ) (count size : ℕ) (marks : List Bool) (name : List ℕ) (node : ℕ) (test : Bool) →
    AreMarks names pattern count marks → size ≡ length marks → test ≡ (nat_lt node size && matches pattern name) →
    AreMarks (names ++ (name, node) ∷ []) pattern count (if test then slice_set marks node true else marks)
AreMarks-more names pattern count size marks name node false are long is =
    AreMarks-other names pattern count marks name node are (λ inside.
    let low : nat_lt node size ≡ true = lt-ltb node size (omega (arith, are.long)) in
    sym (is ∙ ap (λ t. t && matches pattern name) low))
AreMarks-more names pattern count size marks name node true are long is =
    let both = and_parts (nat_lt node size) (matches pattern name) (sym is) in
    AreMarks-matched names pattern count marks name node are (omega (arith, are.long, ltb-true node size both.0)) both.1

-- the nodes from one on that have a match: it has one
pub filter-takes : (test : ℕ → Bool) (node count : ℕ) → node < count → test node ≡ true →
    filter test (range_with_len node (count - node)) ≡ node ∷ filter test (range_with_len (node + 1) (count - (node + 1)))
filter-takes test node count inside passes =
    ap (filter test) (range_with_len-step node count inside)
    ∙ cond-true (test node) (node ∷ filter test (range_with_len (node + 1) (count - (node + 1)))) (filter test (range_with_len (node + 1) (count - (node + 1)))) passes

-- or it has none
pub filter-passes : (test : ℕ → Bool) (node count : ℕ) → node < count → test node ≡ false →
    filter test (range_with_len node (count - node)) ≡ filter test (range_with_len (node + 1) (count - (node + 1)))
filter-passes test node count inside fails =
    ap (filter test) (range_with_len-step node count inside)
    ∙ cond-false (test node) (node ∷ filter test (range_with_len (node + 1) (count - (node + 1)))) (filter test (range_with_len (node + 1) (count - (node + 1)))) fails

-- the nodes so far, and those from a node on that have a match: it is taken
pub matched-takes : (all list new : List ℕ) (test : ℕ → Bool) (node count : ℕ) →
    all ≡ list ++ filter test (range_with_len node (count - node)) → node < count → test node ≡ true → new ≡ list ++ node ∷ [] →
    all ≡ new ++ filter test (range_with_len (node + 1) (count - (node + 1)))
matched-takes all list new test node count so_far inside passes taken =
    let rest = filter test (range_with_len (node + 1) (count - (node + 1))) in
    so_far
    ∙ ap (λ others. list ++ others) (filter-takes test node count inside passes)
    ∙ sym (append_assoc list (node ∷ []) rest)
    ∙ ap (λ front. front ++ rest) (sym taken)

-- or it is passed
pub matched-passes : (all list new : List ℕ) (test : ℕ → Bool) (node count : ℕ) →
    all ≡ list ++ filter test (range_with_len node (count - node)) → node < count → test node ≡ false → new ≡ list →
    all ≡ new ++ filter test (range_with_len (node + 1) (count - (node + 1)))
matched-passes all list new test node count so_far inside fails same =
    so_far
    ∙ ap (λ others. list ++ others) (filter-passes test node count inside fails)
    ∙ ap (λ front. front ++ filter test (range_with_len (node + 1) (count - (node + 1)))) (sym same)

-- a word that has no range, or is a name, is read as one part
pub with_parts-plain : (c : CircuitData) (vectors : List (List ℕ × List ℕ)) (left : ℕ) (word list : List ℕ) → range_of c vectors word ≡ None →
    with_parts list (parts c vectors left word) ≡ with_part list (plain c vectors word)
with_parts-plain c vectors left word list none =
    ap (with_parts list) (parts-plain c vectors left word none) ∙ with_parts-single list (plain c vectors word)

-- a word whose range is too deep has that fault
pub with_parts-deep : (c : CircuitData) (vectors : List (List ℕ × List ℕ)) (left : ℕ) (word list : List ℕ) (range : RangeData) → left ≡ 0 →
    range_of c vectors word ≡ Some range → with_parts list (parts c vectors left word) ≡ Err TooMany
with_parts-deep c vectors left word list range deep some =
    ap (with_parts list) (parts-deep c vectors left word range deep some) ∙ with_parts-single list TooDeep

-- a list takes the words that are left of a range: the next one is taken
pub range-takes : (all : Result (List ℕ) VectorFault) (within : List ℕ → List Part) (range : RangeData) (place : ℕ) (list more word : List ℕ) →
    all ≡ with_parts list (flat_map within (words_from range place)) → place < count_between range.first range.last → word ≡ word_at range place →
    with_parts list (within word) ≡ Ok more → all ≡ with_parts more (flat_map within (words_from range (place + 1)))
range-takes all within range place list more word so_far inside is made =
    so_far
    ∙ ap (λ words. with_parts list (flat_map within words)) (words_from-step range place inside)
    ∙ ap (λ next. with_parts list (within next ++ flat_map within (words_from range (place + 1)))) (sym is)
    ∙ with_parts-on list more (within word) (flat_map within (words_from range (place + 1))) made

-- or has a fault
pub range-fault : (all : Result (List ℕ) VectorFault) (within : List ℕ → List Part) (range : RangeData) (place : ℕ) (list word : List ℕ) (fault : VectorFault) →
    all ≡ with_parts list (flat_map within (words_from range place)) → place < count_between range.first range.last → word ≡ word_at range place →
    with_parts list (within word) ≡ Err fault → all ≡ Err fault
range-fault all within range place list word fault so_far inside is made =
    so_far
    ∙ ap (λ words. with_parts list (flat_map within words)) (words_from-step range place inside)
    ∙ ap (λ next. with_parts list (within next ++ flat_map within (words_from range (place + 1)))) (sym is)
    ∙ with_parts-fault list (within word) (flat_map within (words_from range (place + 1))) fault made

-- or there is none
pub range-done : (all : Result (List ℕ) VectorFault) (within : List ℕ → List Part) (range : RangeData) (place : ℕ) (list : List ℕ) →
    all ≡ with_parts list (flat_map within (words_from range place)) → count_between range.first range.last ≤ place → all ≡ Ok list
range-done all within range place list so_far past =
    so_far
    ∙ ap (λ words. with_parts list (flat_map within words)) (words_from-done range place past)
    ∙ with_parts-none list
