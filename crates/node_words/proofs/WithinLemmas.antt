-- The nodes that words stand for are nodes of the circuit, if those of the vectors are: so are those of a name, and of the vectors when a
-- name was given to words.
use Rattle.std.proofs.Common.{ℕ, zero, suc, ◌+◌, ◌-◌, ◌<◌, ◌≤◌, Bool, true, false, List, [], ◌∷◌, All, Option, Some, None, IfSome, if◌then◌else◌, arith}
use Rattle.std.specs.Prelude.{bytes_eq}
use Rattle.std.specs.List.{flat_map, list_any, range_with_len}
use Rattle.std.proofs.lemmas.List.Elements.{All-nil, All-cons, All-head, All-tail, All-append, All-filter, All-weaker}
use Rattle.switch_paths.specs.Graphs.{nodes}
use Rattle.switch_paths.specs.declared.TheConstants.{RAILS}
use Rattle.netlist.specs.Circuits.{CircuitData, IsCircuit}
use Rattle.netlist.specs.Names.{node_of}
use Rattle.netlist.proofs.KeptLemmas.{node_of-within}
use Rattle.node_words.specs.declared.TheConstants.{MOST_DEPTH}
use Rattle.node_words.specs.Patterns.{is_star}
use Rattle.node_words.specs.Ranges.{RangeData, words_in}
use Rattle.node_words.specs.Vectors.{AreWithin, all_parts, nodes_for, with_list, with_vector}
use Rattle.node_words.specs.Words.{Part, by_pattern, by_range, has_match, list_of, matched, name_or_pattern, named, node_or_list, nodes_in, nodes_of, parts, plain, range_of, some_nodes}
use Rattle.node_words.specs.Words.Part.{Unknown, TooDeep}

-- all of a list are among so many
abbrev IsBelow : ℕ → ℕ → Type 0
IsBelow count node = node < count

-- a part alone
alone : (count : ℕ) (part : Part) → All (IsBelow count) (nodes_of part) → All (λ one. All (IsBelow count) (nodes_of one)) (part ∷ [])
alone count part all =
    All-cons (λ (one : Part). All (IsBelow count) (nodes_of one)) part [] all (All-nil (λ (one : Part). All (IsBelow count) (nodes_of one)))

-- what holds of all that each item gives holds of all that they give
all-flat : {X Y : Type 0} (P : Y → Type 0) (f : X → List Y) (list : List X) → ((x : X) → All P (f x)) → All P (flat_map f list)
all-flat P f [] each = All-nil P
all-flat P f (x ∷ list) each = All-append P (f x) (flat_map f list) (each x) (all-flat P f list each)

-- numbers from one on, so many, are below those behind them
range-below : (first count most : ℕ) → first + count ≤ most → All (IsBelow most) (range_with_len first count)
range-below first zero most few = All-nil (IsBelow most)
range-below first (suc count) most few =
    All-cons (IsBelow most) first (range_with_len (first + 1) count) (omega (arith, few)) (range-below (first + 1) count most (omega (arith, few)))

-- the list of a vector's name
pub list_of-within : (count : ℕ) (vectors : List (List ℕ × List ℕ)) (name : List ℕ) → AreWithin count vectors →
    IfSome (list_of vectors name) (All (λ node. node < count))
list_of-within count [] name all = tt
list_of-within count (entry ∷ vectors) name all =
    by (bytes_eq name entry.0) (list_of-within count vectors name (All-tail (λ (one : List ℕ × List ℕ). All (IsBelow count) one.1) entry vectors all))
  where
    by : (same : Bool) → IfSome (list_of vectors name) (All (IsBelow count)) →
        IfSome (if same then Some entry.1 else list_of vectors name) (All (IsBelow count))
    by true others = All-head (λ (one : List ℕ × List ℕ). All (IsBelow count) one.1) entry vectors all
    by false others = others

module _ (c : CircuitData) (is : IsCircuit c) (vectors : List (List ℕ × List ℕ)) (within : AreWithin (nodes c.graph) vectors) where
  -- the nodes of a name
  pub named-within : (name : List ℕ) → IfSome (named c vectors name) (All (λ node. node < nodes c.graph))
  named-within name =
      by (node_of c.names name) (list_of vectors name) (node_of-within c name is) (list_of-within (nodes c.graph) vectors name within)
    where
      by : (node : Option ℕ) (list : Option (List ℕ)) → IfSome node (λ one. one < nodes c.graph) → IfSome list (All (IsBelow (nodes c.graph))) →
          IfSome (node_or_list node list) (All (IsBelow (nodes c.graph)))
      by (Some node) list below all = All-cons (IsBelow (nodes c.graph)) node [] below (All-nil (IsBelow (nodes c.graph)))
      by None list below all = all

  -- of a pattern
  matched-within : (pattern : List ℕ) → All (IsBelow (nodes c.graph)) (matched c pattern)
  matched-within pattern =
      All-filter (has_match c.names pattern) (IsBelow (nodes c.graph)) (range_with_len RAILS (nodes c.graph - RAILS))
      (range-below RAILS (nodes c.graph - RAILS) (nodes c.graph) (let railed = is.railed in omega (arith, railed)))

  -- of what a word without a range comes to
  plain-within : (word : List ℕ) → All (IsBelow (nodes c.graph)) (nodes_of (plain c vectors word))
  plain-within word = by (named c vectors word) (named-within word)
    where
      listed : (list : List ℕ) → All (IsBelow (nodes c.graph)) list → All (IsBelow (nodes c.graph)) (nodes_of (some_nodes list))
      listed [] all = All-nil (IsBelow (nodes c.graph))
      listed (node ∷ list) all = all

      starred : (star : Bool) → All (IsBelow (nodes c.graph)) (nodes_of (if star then some_nodes (matched c word) else Unknown))
      starred true = listed (matched c word) (matched-within word)
      starred false = All-nil (IsBelow (nodes c.graph))

      by : (found : Option (List ℕ)) → IfSome found (All (IsBelow (nodes c.graph))) →
          All (IsBelow (nodes c.graph)) (nodes_of (name_or_pattern found (by_pattern c word)))
      by (Some list) all = all
      by None all = starred (list_any is_star word)

  -- of parts
  ones-within : (all : List Part) → All (λ part. All (IsBelow (nodes c.graph)) (nodes_of part)) all → All (IsBelow (nodes c.graph)) (nodes_in all)
  ones-within [] each = All-nil (IsBelow (nodes c.graph))
  ones-within (part ∷ all) each =
      All-append (IsBelow (nodes c.graph)) (nodes_of part) (nodes_in all)
      (All-head (λ (one : Part). All (IsBelow (nodes c.graph)) (nodes_of one)) part all each)
      (ones-within all (All-tail (λ (one : Part). All (IsBelow (nodes c.graph)) (nodes_of one)) part all each))

  -- of each part that a word comes to
  parts-within : (left : ℕ) (word : List ℕ) → All (λ part. All (IsBelow (nodes c.graph)) (nodes_of part)) (parts c vectors left word)
  unfolding parts
  parts-within zero word = by (range_of c vectors word)
    where
      by : (range : Option RangeData) →
          All (λ part. All (IsBelow (nodes c.graph)) (nodes_of part)) (by_range (plain c vectors word) (λ one. TooDeep ∷ []) range)
      by None = alone (nodes c.graph) (plain c vectors word) (plain-within word)
      by (Some range) = alone (nodes c.graph) TooDeep (All-nil (IsBelow (nodes c.graph)))
  parts-within (suc left) word = by (parts-within left) (range_of c vectors word)
    where
      by : ((inner : List ℕ) → All (λ part. All (IsBelow (nodes c.graph)) (nodes_of part)) (parts c vectors left inner)) → (range : Option RangeData) →
          All (λ part. All (IsBelow (nodes c.graph)) (nodes_of part))
          (by_range (plain c vectors word) (λ one. flat_map (parts c vectors left) (words_in one)) range)
      by inner None = alone (nodes c.graph) (plain c vectors word) (plain-within word)
      by inner (Some range) =
          all-flat (λ (part : Part). All (IsBelow (nodes c.graph)) (nodes_of part)) (parts c vectors left) (words_in range) inner

  -- of words
  pub nodes_for-within : (words : List (List ℕ)) → All (λ node. node < nodes c.graph) (nodes_for c vectors words)
  nodes_for-within words =
      ones-within (all_parts c vectors words)
      (all-flat (λ (part : Part). All (IsBelow (nodes c.graph)) (nodes_of part)) (parts c vectors MOST_DEPTH) words (parts-within MOST_DEPTH))

  -- and of all vectors when a name was given to words
  pub with_vector-within : (name : List ℕ) (words : List (List ℕ)) → AreWithin (nodes c.graph) (with_vector c vectors name words)
  with_vector-within name words = with_list-within vectors within
    where
      list : List ℕ
      list = nodes_for c vectors words

      with_list-within : (all : List (List ℕ × List ℕ)) → AreWithin (nodes c.graph) all → AreWithin (nodes c.graph) (with_list all name list)
      with_list-within [] below =
          All-cons (λ (one : List ℕ × List ℕ). All (IsBelow (nodes c.graph)) one.1) (name, list) [] (nodes_for-within words)
          (All-nil (λ (one : List ℕ × List ℕ). All (IsBelow (nodes c.graph)) one.1))
      with_list-within (entry ∷ all) below =
          by (bytes_eq name entry.0) (All-tail (λ (one : List ℕ × List ℕ). All (IsBelow (nodes c.graph)) one.1) entry all below)
          (with_list-within all (All-tail (λ (one : List ℕ × List ℕ). All (IsBelow (nodes c.graph)) one.1) entry all below))
        where
          by : (same : Bool) → AreWithin (nodes c.graph) all → AreWithin (nodes c.graph) (with_list all name list) →
              AreWithin (nodes c.graph) (if same then (entry.0, list) ∷ all else entry ∷ with_list all name list)
          by true others later =
              All-cons (λ (one : List ℕ × List ℕ). All (IsBelow (nodes c.graph)) one.1) (entry.0, list) all (nodes_for-within words) others
          by false others later =
              All-cons (λ (one : List ℕ × List ℕ). All (IsBelow (nodes c.graph)) one.1) entry (with_list all name list)
              (All-head (λ (one : List ℕ × List ℕ). All (IsBelow (nodes c.graph)) one.1) entry all below) later

-- vectors of a circuit are those of one with more nodes
pub within-grown : (count more : ℕ) (vectors : List (List ℕ × List ℕ)) → count ≤ more → AreWithin count vectors → AreWithin more vectors
within-grown count more vectors low all =
    All-weaker (λ (one : List ℕ × List ℕ). All (IsBelow count) one.1) (λ (one : List ℕ × List ℕ). All (IsBelow more) one.1)
    (λ one below. All-weaker (IsBelow count) (IsBelow more) (λ node is. omega (arith, is, low)) one.1 below) vectors all
