-- Laws of what words come to: which word of a list is refused, and when none is; and where a range stands.
use Rattle.std.specs.Prelude.{◌≡◌, ◌↔◌, ◌<◌, ◌≤◌, ℕ, ◌+◌, List, [], ◌∷◌, ◌++◌, length, drop, All, Some, None}
use Rattle.line_words.specs.Decimals.{decimal_of}
use Rattle.node_words.specs.declared.TheConstants.{MOST_ENTRIES, MOST_NUMBER}
use Rattle.node_words.specs.declared.fault.VectorFault.{VectorFault}
use Rattle.node_words.specs.Ranges.{RangeData, between, closing, first_range, opening, range_at}
use Rattle.node_words.specs.Words.{Part, fault_in, nodes_in, part_fault}
use Rattle.node_words.specs.Words.Part.{Nodes}

-- those before some part have no fault, and behind their nodes it has this one
pub record HasFirstFault (count : ℕ) (all : List Part) (fault : VectorFault) : Type 0 where
  pub before : List Part
  pub part : Part
  pub after : List Part
  pub whole : all ≡ before ++ part ∷ after
  pub accepted : fault_in count before ≡ None
  pub refused : part_fault (count + length (nodes_in before)) part ≡ Some fault

-- the fault of parts is that of the first one that has any
abbrev pub FaultsAreFirst : Type 0
FaultsAreFirst = (count : ℕ) (all : List Part) (fault : VectorFault) → (fault_in count all ≡ Some fault) ↔ HasFirstFault count all fault

-- the part is nodes
pub record IsNodes (part : Part) : Type 0 where
  pub list : List ℕ
  pub same : part ≡ Nodes list

-- parts have no fault exactly if each is nodes, and a list has room for all of them
abbrev pub AcceptedAreNodes : Type 0
AcceptedAreNodes = (all : List Part) → (fault_in 0 all ≡ None) ↔ (All IsNodes all × (length (nodes_in all) ≤ MOST_ENTRIES))

-- the digits write a number that a range may have
pub record WritesNumber (digits : List ℕ) (number : ℕ) : Type 0 where
  pub writes : decimal_of digits ≡ Some number
  pub small : number ≤ MOST_NUMBER

-- a text begins with a range: `{`, digits, `:`, digits and `}`, and this stands after it
pub record BeginsRange (text : List ℕ) (first last : ℕ) (after : List ℕ) : Type 0 where
  pub one : List ℕ
  pub other : List ℕ
  pub whole : text ≡ opening ∷ (one ++ between ∷ (other ++ closing ∷ after))
  pub writes_first : WritesNumber one first
  pub writes_last : WritesNumber other last

-- a range begins exactly so
abbrev pub RangesStandInBraces : Type 0
RangesStandInBraces =
    (text : List ℕ) (first last : ℕ) (after : List ℕ) →
    (range_at text ≡ Some (record { before = []; first = first; last = last; after = after })) ↔ BeginsRange text first last after

-- the range of a word is one that begins behind the bytes before it, and none begins at those
pub record IsFirstRange (word : List ℕ) (range : RangeData) : Type 0 where
  pub rest : List ℕ
  pub whole : word ≡ range.before ++ rest
  pub begins : range_at rest ≡ Some (record range { before = [] })
  pub none_earlier : (k : ℕ) → k < length range.before → range_at (drop k word) ≡ None

abbrev pub RangesAreFirst : Type 0
RangesAreFirst = (word : List ℕ) (range : RangeData) → first_range word ≡ Some range → IsFirstRange word range
