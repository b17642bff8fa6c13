-- Lines of all columns that are told one after the other: what of them was heard.
use Rattle.std.proofs.Common.{◌≡◌, ℕ, ◌+◌, ◌<◌, ◌≤◌, inl, inr, List, [], ◌∷◌, ◌++◌, length, get_or, map, drop, Option, None, refl, sym, ap, subst, ◌∙◌, append-nil, arith}
use Rattle.std.specs.Prelude.{filter_map, flat_map, Result, Ok, Err, IsErrAnd, OnOk, OnErr}
use Rattle.std.specs.List.{enumerate_from}
use Rattle.std.proofs.lemmas.List.{drop_all, drop_more, get_or_default, map-append}
use Rattle.std.proofs.lemmas.List.FromFn.{get_or-enumerate_from, length-enumerate_from}
use Rattle.std.proofs.lemmas.List.Elements.{filter_map-append}
use Rattle.ports.specs.declared.ports.PortFault.{PortFault}
use Rattle.ports.specs.declared.ports.PortFault.TheVariants.{Failed, NoMemory}
use Rattle.ports.specs.Ports.{faults_after, faults_at, RefusedOnce}
use Rattle.switch_paths.specs.Graphs.{place_at}
use Rattle.switch_paths.specs.declared.switching.Switch.{Switch}
use Rattle.netlist.specs.Circuits.{CircuitData}
use Rattle.told_lines.specs.Hearing.{hear_all, HearsFront, HearsPart, Hears}
use Rattle.told_lines.proofs.HearingLemmas.{hear_all-append, so_far-start, so_far-stopped}
use Rattle.node_looks.specs.Looks.{numbered}
use Rattle.session_meaning.specs.declared.fault.Refusal.{Refusal}
use Rattle.session_meaning.specs.Sinks.{faults_applied}
use Rattle.symbol_meaning.specs.Told.{SymbolTold}
use Rattle.symbol_told.specs.Lines.{Telling}
use Rattle.symbol_looking.specs.Tellings.{HearsSome, RefusedTelling, TellsInAll, applied, telling, tellings}

-- ---- lines of any type

module _ {H A : Type 0} (hear : H → A → H) (part : H → A → H → Type 0) where
  -- some lines were heard, and then others, or a part of them
  heard_then : {E : Type 0} (before mid after : H) (front rest : List A) (result : Result (Unit {0}) E) → mid ≡ hear_all hear before front →
      Hears hear part mid after rest result → Hears hear part before after (front ++ rest) result
  heard_then before mid after front rest (Ok _) heard sent =
      sent ∙ ap (λ h. hear_all hear h rest) heard ∙ sym (hear_all-append hear before front rest)
  heard_then before mid after front rest (Err fault) heard sent =
      so_far-stopped hear part before mid after (front ++ rest) rest rest [] (sym (append-nil rest))
      (record { done = front; split = refl; heard = heard }) sent

  -- of some lines a part was heard, so of these and others
  heard_part : (before after : H) (front rest : List A) → HearsPart hear part before after front → HearsPart hear part before after (front ++ rest)
  heard_part before after front rest stopped =
      so_far-stopped hear part before before after (front ++ rest) (front ++ rest) front rest refl (so_far-start hear before (front ++ rest)) stopped

  -- a part of lines is a front of them, and so is none of them
  pub some_heard : {E : Type 0} (before after : H) (lines : List A) (result : Result (Unit {0}) E) → Hears hear part before after lines result →
      HearsSome hear part before after lines result
  some_heard before after lines (Ok _) sent = sent
  some_heard before after lines (Err fault) sent = inr sent

  pub none_heard : (before after : H) (lines : List A) → after ≡ before → HearsFront hear part before after lines
  none_heard before after lines same = inl (lines, record { done = []; split = refl; heard = same })

  -- one line was heard, or at a fault a part of it
  pub line_heard : {E : Type 0} (before after : H) (line : A) (result : Result (Unit {0}) E) → OnOk result (after ≡ hear before line) →
      OnErr result (part before line after) → HearsSome hear part before after (line ∷ []) result
  line_heard before after line (Ok _) ok err = ok
  line_heard before after line (Err fault) ok err = inr (record { front = []; next = line; rest = []; split = refl; heard = err })

-- ---- lines that are told without rails

module _ {H : Type 0} (hear : H → Telling → H) (part : H → Telling → H → Type 0) where
  -- some were heard, and then others, or a part of them
  pub told_then : {E : Type 0} (before mid after : H) (front rest : List SymbolTold) (result : Result (Unit {0}) E) → mid ≡ hear_all hear before (tellings front) →
      Hears hear part mid after (tellings rest) result → Hears hear part before after (tellings (front ++ rest)) result
  told_then before mid after front rest result heard sent =
      rw (map-append telling front rest) (heard_then hear part before mid after (tellings front) (tellings rest) result heard sent)

  -- of some a part was heard, so of these and others
  pub told_part : (before after : H) (front rest : List SymbolTold) → HearsPart hear part before after (tellings front) →
      HearsPart hear part before after (tellings (front ++ rest))
  told_part before after front rest stopped =
      rw (map-append telling front rest) (heard_part hear part before after (tellings front) (tellings rest) stopped)

-- ---- what ends a command

-- lines that were heard of a command that isn't refused are what it tells
pub tells_heard : {H : Type 0} (hear : H → Telling → H) (part : H → Telling → H → Type 0) (found : Option Refusal) (lines : List Telling) (before after : H)
    (told : Result (Unit {0}) PortFault) → found ≡ None → HearsSome hear part before after lines told →
    TellsInAll hear part found lines before after (applied told)
tells_heard hear part found lines before after (Ok _) allowed heard = (allowed, heard)
tells_heard hear part found lines before after (Err Failed) allowed heard = (allowed, heard)
tells_heard hear part found lines before after (Err NoMemory) allowed heard = (allowed, heard)

pub faults_told : (faults : ℕ) (told : Result (Unit {0}) PortFault) → faults_after faults told ≡ faults_applied faults (applied told)
faults_told faults (Ok _) = refl
faults_told faults (Err Failed) = refl
faults_told faults (Err NoMemory) = refl

pub refused_told : (before now : ℕ) (told : Result (Unit {0}) PortFault) → RefusedOnce before now told → RefusedTelling before now (applied told)
refused_told before now (Ok _) is = is
refused_told before now (Err Failed) is = is
refused_told before now (Err NoMemory) is = is

-- ---- lines of names

module _ (names : List (List ℕ)) (place : ℕ) (name : List ℕ) (inside : place < length names) (is : name ≡ get_or names place name) where
  -- the lines from a name on are its own, and those after it
  pub shown_next : (line : List ℕ → SymbolTold) →
      tellings (map line (drop place names)) ≡ tellings (line name ∷ []) ++ tellings (map line (drop (place + 1) names))
  shown_next line =
      ap (λ (left : List (List ℕ)). tellings (map line left)) (drop_more names place name inside)
      ∙ ap (λ (first : List ℕ). tellings (map line (first ∷ drop (place + 1) names))) (sym is)

  pub looked_next : (lines : List ℕ → List SymbolTold) →
      tellings (flat_map lines (drop place names)) ≡ tellings (lines name) ++ tellings (flat_map lines (drop (place + 1) names))
  looked_next lines =
      ap (λ (left : List (List ℕ)). tellings (flat_map lines left)) (drop_more names place name inside)
      ∙ ap (λ (first : List ℕ). tellings (flat_map lines (first ∷ drop (place + 1) names))) (sym is)
      ∙ map-append telling (lines name) (flat_map lines (drop (place + 1) names))

-- ---- lines of transistors, place by place

-- what stands at a place stands under its number
enumerated_next : {X : Type 0} (k : ℕ) (xs : List X) (place : ℕ) (x : X) → place < length xs → x ≡ get_or xs place x →
    drop place (enumerate_from k xs) ≡ (k + place, x) ∷ drop (place + 1) (enumerate_from k xs)
enumerated_next {X} k xs place x inside is =
    drop_more (enumerate_from k xs) place (k, x) (rw (length-enumerate_from k xs) inside)
    ∙ ap (λ (first : ℕ × X). first ∷ drop (place + 1) (enumerate_from k xs))
    (get_or-enumerate_from k xs place (k, x) inside ∙ ap (λ (y : X). (k + place, y)) (sym is))

-- the lines from a place on: that of what stands there, if it has one, and those behind
pub places_next : (line : ℕ × Option Switch → Option SymbolTold) (c : CircuitData) (place : ℕ) → place < length c.graph.places →
    tellings (filter_map line (drop place (numbered c)))
    ≡ tellings (filter_map line ((place + 1, place_at c.graph.places place) ∷ [])) ++ tellings (filter_map line (drop (place + 1) (numbered c)))
places_next line c place inside =
    let here : Option Switch = place_at c.graph.places place in
    let number : 1 + place ≡ place + 1 = omega arith in
    let behind = drop (place + 1) (numbered c) in
    ap (λ (left : List (ℕ × Option Switch)). tellings (filter_map line left))
    (enumerated_next 1 c.graph.places place here inside (get_or_default c.graph.places place None here inside)
    ∙ ap (λ (n : ℕ). (n, here) ∷ behind) number)
    ∙ ap tellings (filter_map-append line ((place + 1, here) ∷ []) behind) ∙ map-append telling (filter_map line ((place + 1, here) ∷ [])) (filter_map line behind)

-- behind the last place there are none
pub none_behind : (line : ℕ × Option Switch → Option SymbolTold) (c : CircuitData) (place : ℕ) → length c.graph.places ≤ place →
    [] ≡ tellings (filter_map line (drop place (numbered c)))
none_behind line c place past =
    sym (ap (λ (left : List (ℕ × Option Switch)). tellings (filter_map line left))
    (drop_all place (numbered c) (rw (length-enumerate_from 1 c.graph.places) past)))

-- behind the last name there is none
pub drop_end : (names : List (List ℕ)) (place : ℕ) → length names ≤ place → drop place names ≡ []
drop_end names place past = drop_all place names past

-- ---- memory

-- who lacks memory of its own meets no fault of the hearer, whose count of refused memory is as before
pub lacks_faults : (faults : ℕ) (result : Result (Unit {0}) PortFault) → IsErrAnd result (λ fault. fault ≡ NoMemory) → faults ≡ faults_after faults result
lacks_faults faults (Ok _) lacks = absurd lacks
lacks_faults faults (Err fault) lacks = ap (λ (why : PortFault). faults_at faults why) (sym lacks)

pub lacks_once : (count : ℕ) (result : Result (Unit {0}) PortFault) → IsErrAnd result (λ fault. fault ≡ NoMemory) → RefusedOnce count count result
lacks_once count (Ok _) lacks = absurd lacks
lacks_once count (Err fault) lacks = subst (λ (why : PortFault). RefusedOnce {T = Unit {0}} count count (Err why)) (sym lacks) (inl refl)

-- what holds anyway holds where all went well
pub on_ok : {T E P : Type 0} (result : Result T E) → P → OnOk result P
on_ok (Ok value) fact = fact
on_ok (Err fault) fact = tt
