-- The first fault of parts, and parts without any.
use Rattle.std.proofs.Common.{◌≡◌, ℕ, ◌+◌, ◌≤◌, List, [], ◌∷◌, ◌++◌, length, All, Option, Some, None, inl, inr, refl, sym, ap, ◌∙◌, arith, length-append, if◌then◌else◌}
use Rattle.std.proofs.lemmas.Bool.{cases_lt, lt-leb, le-leb}
use Rattle.std.proofs.lemmas.List.Elements.{All-nil, All-cons, All-head, All-tail}
use Rattle.node_words.specs.declared.TheConstants.{MOST_ENTRIES}
use Rattle.node_words.specs.declared.fault.VectorFault.{VectorFault}
use Rattle.node_words.specs.declared.fault.VectorFault.TheVariants.{TooMany}
use Rattle.node_words.specs.Words.{Part, fault_in, first_of_faults, nodes_in, nodes_of, part_fault}
use Rattle.node_words.specs.Words.Part.{Nodes, Unknown, TooDeep}
use Rattle.node_words.specs.Laws.{HasFirstFault, IsNodes, FaultsAreFirst, AcceptedAreNodes}

-- a fault is that of a first part
first_from : (count : ℕ) (all : List Part) (fault : VectorFault) → fault_in count all ≡ Some fault → HasFirstFault count all fault
first_from count [] fault found = absurd (cc)
first_from count (part ∷ all) fault found =
    by (part_fault count part) refl found (first_from (count + length (nodes_of part)) all fault)
  where
    by : (here : Option VectorFault) → part_fault count part ≡ here →
        first_of_faults here (fault_in (count + length (nodes_of part)) all) ≡ Some fault →
        (fault_in (count + length (nodes_of part)) all ≡ Some fault → HasFirstFault (count + length (nodes_of part)) all fault) →
        HasFirstFault count (part ∷ all) fault
    by (Some own) is found later = record {
      before = [];
      part = part;
      after = all;
      whole = refl;
      accepted = refl;
      refused = let same : count + 0 ≡ count = omega arith in ap (λ n. part_fault n part) same ∙ is ∙ found;
    }
    by None is found later =
        let first = later found in
        record {
          before = part ∷ first.before;
          part = first.part;
          after = first.after;
          whole = ap (λ others. part ∷ others) first.whole;
          accepted = ap (λ here. first_of_faults here (fault_in (count + length (nodes_of part)) first.before)) is ∙ first.accepted;
          refused =
              let same : count + length (nodes_of part ++ nodes_in first.before) ≡ (count + length (nodes_of part)) + length (nodes_in first.before) =
              omega (arith, length-append (nodes_of part) (nodes_in first.before)) in
              ap (λ n. part_fault n first.part) same ∙ first.refused;
        }

-- and a first part's is the fault
fault_at : (count : ℕ) (before : List Part) (part : Part) (after : List Part) (fault : VectorFault) → fault_in count before ≡ None →
    part_fault (count + length (nodes_in before)) part ≡ Some fault → fault_in count (before ++ part ∷ after) ≡ Some fault
fault_at count [] part after fault accepted refused =
    let same : count ≡ count + 0 = omega arith in
    ap (λ here. first_of_faults here (fault_in (count + length (nodes_of part)) after)) (ap (λ n. part_fault n part) same ∙ refused)
fault_at count (first ∷ before) part after fault accepted refused =
    by (part_fault count first) accepted (λ rest. fault_at (count + length (nodes_of first)) before part after fault rest moved)
  where
    moved : part_fault ((count + length (nodes_of first)) + length (nodes_in before)) part ≡ Some fault
    moved =
        let same : (count + length (nodes_of first)) + length (nodes_in before) ≡ count + length (nodes_of first ++ nodes_in before) =
        omega (arith, length-append (nodes_of first) (nodes_in before)) in
        ap (λ n. part_fault n part) same ∙ refused

    by : (here : Option VectorFault) → first_of_faults here (fault_in (count + length (nodes_of first)) before) ≡ None →
        (fault_in (count + length (nodes_of first)) before ≡ None → fault_in (count + length (nodes_of first)) (before ++ part ∷ after) ≡ Some fault) →
        first_of_faults here (fault_in (count + length (nodes_of first)) (before ++ part ∷ after)) ≡ Some fault
    by (Some own) accepted later = absurd (cc)
    by None accepted later = later accepted

pub faults-first : FaultsAreFirst
faults-first count all fault = (
  first_from count all fault,
  λ first. ap (fault_in count) first.whole ∙ fault_at count first.before first.part first.after fault first.accepted first.refused,
)

-- parts behind so many entries without a fault are nodes, and there is room for them
nodes_from : (count : ℕ) (all : List Part) → count ≤ MOST_ENTRIES → fault_in count all ≡ None →
    All IsNodes all × (count + length (nodes_in all) ≤ MOST_ENTRIES)
nodes_from count [] few none = (All-nil IsNodes, omega arith)
nodes_from count (Unknown ∷ all) few none = absurd (cc)
nodes_from count (TooDeep ∷ all) few none = absurd (cc)
nodes_from count (Nodes list ∷ all) few none =
    elim (cases_lt MOST_ENTRIES (count + length list)) [
      | inl past ↦ absurd (let found : part_fault count (Nodes list) ≡ Some TooMany = ap (λ test. if test then None else Some TooMany) (lt-leb _ _ past) in
          let both : first_of_faults (Some TooMany) (fault_in (count + length list) all) ≡ None = ap (λ here. first_of_faults here (fault_in (count + length list) all)) (sym found) ∙ none in cc)
      | inr room ↦
          let fits : part_fault count (Nodes list) ≡ None = ap (λ test. if test then None else Some TooMany) (le-leb _ _ room) in
          let rest = nodes_from (count + length list) all room (ap (λ here. first_of_faults here (fault_in (count + length list) all)) (sym fits) ∙ none) in (
            All-cons IsNodes (Nodes list) all (record { list = list; same = refl }) rest.0,
            omega (arith, rest.1, length-append list (nodes_in all)),
          )
    ]

-- and such parts have none
none_from : (count : ℕ) (all : List Part) → All IsNodes all → count + length (nodes_in all) ≤ MOST_ENTRIES → fault_in count all ≡ None
none_from count [] nodes room = refl
none_from count (part ∷ all) nodes room =
    let here = All-head IsNodes part all nodes in
    by part here.list here.same room (none_from (count + length (nodes_of part)) all (All-tail IsNodes part all nodes))
  where
    by : (part : Part) (list : List ℕ) → part ≡ Nodes list → count + length (nodes_of part ++ nodes_in all) ≤ MOST_ENTRIES →
        ((count + length (nodes_of part)) + length (nodes_in all) ≤ MOST_ENTRIES → fault_in (count + length (nodes_of part)) all ≡ None) →
        first_of_faults (part_fault count part) (fault_in (count + length (nodes_of part)) all) ≡ None
    by Unknown list same room later = absurd (cc)
    by TooDeep list same room later = absurd (cc)
    by (Nodes own) list same room later =
        let grown = length-append own (nodes_in all) in
        ap (λ test. first_of_faults (if test then None else Some TooMany) (fault_in (count + length own) all)) (le-leb (count + length own) MOST_ENTRIES (omega (arith, grown)))
        ∙ later (omega (arith, grown))

pub accepted-nodes : AcceptedAreNodes
accepted-nodes all = (
  λ none. let both = nodes_from 0 all (omega arith) none in (both.0, omega (arith, both.1)),
  λ nodes. none_from 0 all nodes.0 (omega (arith, nodes.1)),
)
