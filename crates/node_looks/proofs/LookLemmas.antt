-- The lines of nodes that are looked at: place by place, their room, and that none is of an expectation that isn't met.
use Rattle.std.proofs.Common.{◌≡◌, ℕ, ◌+◌, ◌<◌, ◌≤◌, Bool, true, false, List, [], ◌∷◌, ◌++◌, length, get_or, drop, nat_lt, unwrap_or, All, Option, None, Some, IfSome, if◌then◌else◌, refl, sym, ap, subst, ◌∙◌, arith}
use Rattle.std.specs.Prelude.{◌==◌, filter_map, option_map}
use Rattle.std.specs.List.{cons_option, enumerate_from, list_any}
use Rattle.std.proofs.lemmas.Bool.Decides.{nat_tests}
use Rattle.std.proofs.lemmas.List.{drop_all, drop_more, get_or_default}
use Rattle.std.proofs.lemmas.List.FromFn.{get_or-enumerate_from, length-enumerate_from}
use Rattle.std.proofs.lemmas.List.Elements.{filter_map-append, All-nil, All-cons, All-head, All-tail, All-append}
use Rattle.std.proofs.lemmas.List.Folds.{list_any-append}
use Rattle.ternary.specs.declared.tern.Tern.{Tern}
use Rattle.switch_paths.specs.Graphs.{nodes, place_at, Fits, FitsPlace}
use Rattle.switch_paths.specs.declared.switching.Switch.{Switch}
use Rattle.netlist.specs.Circuits.{CircuitData, IsCircuit, called}
use Rattle.netlist.specs.Names.{name_at}
use Rattle.printed_lines.specs.declared.lines.TheConstants.{COLUMN_ROOM}
use Rattle.printed_lines.specs.declared.looks.TheConstants.{LOOK_LINE_ROOM}
use Rattle.told_lines.specs.Lines.{Line, AreInRoom, is_unmet, room_of}
use Rattle.told_lines.specs.Hearing.{of_column}
use Rattle.told_lines.proofs.HearingLemmas.{of_column-append}
use Rattle.node_looks.specs.Looks.{other_end, at_end, at_gate, end_line, gate_line, numbered, node_line, end_lines, gate_lines, node_lines}

-- ---- place by place

-- room for some lines and others is room for each of the two
pub room-parts : (room : ℕ) (front rest : List Line) → AreInRoom room (front ++ rest) → AreInRoom room front × AreInRoom room rest
room-parts room [] rest all = (All-nil (λ line. room_of line ≤ room), all)
room-parts room (line ∷ front) rest all =
    let both = room-parts room front rest (All-tail (λ one. room_of one ≤ room) line (front ++ rest) all) in
    (All-cons (λ one. room_of one ≤ room) line front (All-head (λ one. room_of one ≤ room) line (front ++ rest) all) both.0, both.1)

-- what stands at a place stands under its number
enumerated-next : {X : Type 0} (k : ℕ) (xs : List X) (place : ℕ) (x : X) → place < length xs → x ≡ get_or xs place x →
    drop place (enumerate_from k xs) ≡ (k + place, x) ∷ drop (place + 1) (enumerate_from k xs)
enumerated-next {X} k xs place x inside is =
    drop_more (enumerate_from k xs) place (k, x) (rw (length-enumerate_from k xs) inside)
    ∙ ap (λ (first : ℕ × X). first ∷ drop (place + 1) (enumerate_from k xs))
    (get_or-enumerate_from k xs place (k, x) inside ∙ ap (λ (y : X). (k + place, y)) (sym is))

module _ (line : ℕ × Option Switch → Option Line) (c : CircuitData) (place : ℕ) (inside : place < length c.graph.places) where
  -- the lines from a place on: that of what stands there, if it has one, and those behind
  next :
      filter_map line (drop place (numbered c))
      ≡ filter_map line ((place + 1, place_at c.graph.places place) ∷ []) ++ filter_map line (drop (place + 1) (numbered c))
  next =
      let here : Option Switch = place_at c.graph.places place in
      let number : 1 + place ≡ place + 1 = omega arith in
      ap (filter_map line) (enumerated-next 1 c.graph.places place here inside (get_or_default c.graph.places place None here inside))
      ∙ ap (λ (n : ℕ). filter_map line ((n, here) ∷ drop (place + 1) (numbered c))) number
      ∙ filter_map-append line ((place + 1, here) ∷ []) (drop (place + 1) (numbered c))

  -- so they are told
  pub heard-next :
      of_column 0 (filter_map line (drop place (numbered c)))
      ≡ of_column 0 (filter_map line ((place + 1, place_at c.graph.places place) ∷ []))
      ++ of_column 0 (filter_map line (drop (place + 1) (numbered c)))
  heard-next =
      ap (of_column 0) next
      ∙ of_column-append 0 (filter_map line ((place + 1, place_at c.graph.places place) ∷ [])) (filter_map line (drop (place + 1) (numbered c)))

  -- and if there is room for them, there is for both
  pub room-next : (room : ℕ) → AreInRoom room (filter_map line (drop place (numbered c))) →
      AreInRoom room (filter_map line ((place + 1, place_at c.graph.places place) ∷ []))
      × AreInRoom room (filter_map line (drop (place + 1) (numbered c)))
  room-next room fit =
      room-parts room (filter_map line ((place + 1, place_at c.graph.places place) ∷ [])) (filter_map line (drop (place + 1) (numbered c)))
      (subst (AreInRoom room) next fit)

-- behind the last place there are none
pub none-behind : (line : ℕ × Option Switch → Option Line) (c : CircuitData) (place : ℕ) → length c.graph.places ≤ place →
    filter_map line (drop place (numbered c)) ≡ []
none-behind line c place past =
    ap (filter_map line) (drop_all place (numbered c) (rw (length-enumerate_from 1 c.graph.places) past))

-- ---- other ends

-- the other end is a node
pub other_end-inside : (count node : ℕ) (switch : Switch) (other : ℕ) → Fits count switch → other_end node switch ≡ Some other →
    other < count
other_end-inside count node switch other fits is = by (switch.a == node) (switch.b == node) is
  where
    by : (first second : Bool) → (if first then Some switch.b else (if second then Some switch.a else None)) ≡ Some other → other < count
    by true second is = subst (λ (n : ℕ). n < count) (let same : switch.b ≡ other = cc in same) fits.b
    by false true is = subst (λ (n : ℕ). n < count) (let same : switch.a ≡ other = cc in same) fits.a
    by false false is = absurd (cc)

-- ---- room

-- what holds of each given line holds of all
given-all : (P : Line → Type 0) (line : ℕ × Option Switch → Option Line) (Q : Option Switch → Type 0) →
    ((entry : ℕ × Option Switch) → Q entry.1 → IfSome (line entry) P) → (k : ℕ) (places : List (Option Switch)) → All Q places →
    All P (filter_map line (enumerate_from k places))
given-all P line Q each k [] all = All-nil P
given-all P line Q each k (place ∷ places) all =
    by (line (k, place)) (each (k, place) (All-head Q place places all)) (given-all P line Q each (k + 1) places (All-tail Q place places all))
  where
    by : (given : Option Line) → IfSome given P → All P (filter_map line (enumerate_from (k + 1) places)) →
        All P (cons_option given (filter_map line (enumerate_from (k + 1) places)))
    by None first others = others
    by (Some one) first others = All-cons P one (filter_map line (enumerate_from (k + 1) places)) first others

module _ (c : CircuitData) (is : IsCircuit c) (longest : ℕ) (long : (node : ℕ) → node < nodes c.graph → length (called c node) ≤ longest)
    (state : List Tern) where
  -- room for a line with two names, each as long as the longest
  abbrev most : ℕ
  most = COLUMN_ROOM + (LOOK_LINE_ROOM + (longest + longest))

  end-fits : (node : ℕ) (entry : ℕ × Option Switch) → FitsPlace (nodes c.graph) entry.1 →
      IfSome (end_line c state node entry) (λ line. room_of line ≤ most)
  end-fits node (number, None) fits = tt
  end-fits node (number, Some switch) fits = by (other_end node switch) refl
    where
      by : (found : Option ℕ) → other_end node switch ≡ found →
          IfSome (option_map (at_end c state number switch) found) (λ line. room_of line ≤ COLUMN_ROOM + (LOOK_LINE_ROOM + (longest + longest)))
      by None found = tt
      by (Some other) found =
          let gate = long switch.gate fits.gate in
          let end = long other (other_end-inside (nodes c.graph) node switch other fits found) in
          omega (arith, gate, end)

  gate-fits : (node : ℕ) (entry : ℕ × Option Switch) → FitsPlace (nodes c.graph) entry.1 →
      IfSome (gate_line c state node entry) (λ line. room_of line ≤ most)
  gate-fits node (number, None) fits = tt
  gate-fits node (number, Some switch) fits = by (switch.gate == node)
    where
      by : (met : Bool) → IfSome (if met then Some (at_gate c state number switch) else None)
          (λ line. room_of line ≤ COLUMN_ROOM + (LOOK_LINE_ROOM + (longest + longest)))
      by false = tt
      by true =
          let source = long switch.a fits.a in
          let drain = long switch.b fits.b in
          omega (arith, source, drain)

  -- it is room for the lines of each node
  pub node-fits : (node : ℕ) → node < nodes c.graph →
      AreInRoom (COLUMN_ROOM + (LOOK_LINE_ROOM + (longest + longest))) (node_lines c state node)
  node-fits node inside =
      let name = long node inside in
      let each = is.wired.places in
      All-cons (λ line. room_of line ≤ most) (node_line c state node) (end_lines c state node ++ gate_lines c state node) (omega (arith, name))
      (All-append (λ line. room_of line ≤ most) (end_lines c state node) (gate_lines c state node)
      (given-all (λ line. room_of line ≤ most) (end_line c state node) (FitsPlace (nodes c.graph)) (end-fits node) 1 c.graph.places each)
      (given-all (λ line. room_of line ≤ most) (gate_line c state node) (FitsPlace (nodes c.graph)) (gate-fits node) 1 c.graph.places each))

-- the longest name of the nodes so far, or a longer one, is as long as each
pub long-next : (c : CircuitData) (node most next : ℕ) (name : List ℕ) → name_at c.names node ≡ Some name → most ≤ next → length name ≤ next →
    ((other : ℕ) → other < node → length (called c other) ≤ most) → (other : ℕ) → other < node + 1 → length (called c other) ≤ next
long-next c node most next name is more fits so_far other low = by (nat_lt other node) refl
  where
    by : (below : Bool) → nat_lt other node ≡ below → length (called c other) ≤ next
    by true before =
        let inside : other < node = grind (arith, nat_tests) in
        let old = so_far other inside in omega (arith, old, more)
    by false past =
        let at : node ≤ other = grind (arith, nat_tests) in
        let same : other ≡ node = omega (arith, at, low) in
        subst (λ (n : ℕ). length (called c n) ≤ next) (sym same)
        (subst (λ (found : Option (List ℕ)). length (unwrap_or found []) ≤ next) (sym is) fits)

-- ---- none is of an expectation

module _ (c : CircuitData) (state : List Tern) (node : ℕ) where
  end-met : (entry : ℕ × Option Switch) → IfSome (end_line c state node entry) (λ line. is_unmet line ≡ false)
  end-met (number, None) = tt
  end-met (number, Some switch) = by (other_end node switch)
    where
      by : (found : Option ℕ) → IfSome (option_map (at_end c state number switch) found) (λ line. is_unmet line ≡ false)
      by None = tt
      by (Some other) = refl

  gate-met : (entry : ℕ × Option Switch) → IfSome (gate_line c state node entry) (λ line. is_unmet line ≡ false)
  gate-met (number, None) = tt
  gate-met (number, Some switch) = by (switch.gate == node)
    where
      by : (met : Bool) → IfSome (if met then Some (at_gate c state number switch) else None) (λ line. is_unmet line ≡ false)
      by true = refl
      by false = tt

given-met : (line : ℕ × Option Switch → Option Line) → ((entry : ℕ × Option Switch) → IfSome (line entry) (λ one. is_unmet one ≡ false)) →
    (entries : List (ℕ × Option Switch)) → list_any is_unmet (filter_map line entries) ≡ false
given-met line each [] = refl
given-met line each (entry ∷ entries) = by (line entry) (each entry) (given-met line each entries)
  where
    by : (given : Option Line) → IfSome given (λ one. is_unmet one ≡ false) → list_any is_unmet (filter_map line entries) ≡ false →
        list_any is_unmet (cons_option given (filter_map line entries)) ≡ false
    by None first others = others
    by (Some one) first others = rw (first, others) refl

pub node_met : (c : CircuitData) (state : List Tern) (node : ℕ) → list_any is_unmet (node_lines c state node) ≡ false
node_met c state node =
    list_any-append is_unmet (end_lines c state node) (gate_lines c state node)
    ∙ rw (given-met (end_line c state node) (end-met c state node) (numbered c))
    (given-met (gate_line c state node) (gate-met c state node) (numbered c))
