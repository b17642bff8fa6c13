-- Laws of the search: what one more entry leaves as it was, and that of what is stronger nothing is missing.
use Rattle.std.proofs.Common.{◌≡◌, ◌≢◌, ℕ, ◌+◌, ◌-◌, ◌<◌, Bool, true, false, inl, inr, List, [], ◌∷◌, ◌++◌, length, replicate, Option, Some, None, refl, sym, ◌∙◌, ap, subst, arith, take, get_or, get_or-set_same, get_or-set_other, length-append}
use Rattle.std.specs.Prelude.{slice_get, slice_set, Contains, Vec}
use Rattle.std.specs.declared.alloc.Global.{Global}
use Rattle.std.proofs.lemmas.Bool.{cases_lt, cases_eq}
use Rattle.std.proofs.lemmas.List.{length-replicate, get_or-replicate, take_more}
use Rattle.std.proofs.lemmas.List.Elements.{Contains-append_left, Contains-push, Contains-push_cases}
use Rattle.std.specs.Option.{option_map_or}
use Rattle.std.proofs.lemmas.List.Folds.{sum_by-replicate}
use Rattle.std.proofs.lemmas.Option.{slice_get_read, slice_get_past, slice_get_within, slice_get-get_or, get_or_from_slice_get}
use Rattle.std.proofs.Math.ListN.{set, length-set}
use Rattle.ternary.specs.declared.tern.Tern.{Tern}
use Rattle.strength_order.specs.declared.TheConstants.{INPUT_LEVEL}
use Rattle.switch_paths.specs.Graphs.{GraphData, IsWired, nodes, level_of}
use Rattle.switch_paths.specs.Path.{Stand}
use Rattle.switch_paths.proofs.PathLemmas.{Hop-unique, Hop-weaker, level_fits}
use Rattle.why_path.specs.declared.search.Found.{Found}
use Rattle.why_path.specs.declared.search.Last.{Last}
use Rattle.why_path.specs.Search.{HaveSwitches, list_at, IsRootOf, IsFoundBy, IsIn, IsPassed, IsSettled, IsRootIn, IsSearch, IsNew, Keeps, LandsAt, Lands, not_seen}
use Rattle.why_path.proofs.FoundLemmas.{get-last, get-cases, Keeps-append, IsIn-kept, IsIn-lower, IsIn-named, mark-set, mark-other, mark-still, unseen-set}

module _ (rail : Tern → Bool) (g : GraphData) (state : List Tern) (best : List ℕ) where
  -- an entry was found as it was, where entries stay
  IsFoundBy-kept : (old new : List Found) (k : ℕ) (entry : Found) (last : Option Last) → Keeps old new →
      IsFoundBy rail g state best old k entry last → IsFoundBy rail g state best new k entry last
  IsFoundBy-kept old new k entry None kept by = by
  IsFoundBy-kept old new k entry (Some last) kept by = record {
    earlier = by.earlier;
    from = by.from;
    at_from = kept last.from by.from by.at_from;
    over = by.over;
  }

  -- a hop that was passed stays so
  pub IsPassed-kept : {old new : List Found} (least : ℕ) (entry : Found) (place : ℕ) → Keeps old new →
      IsPassed g state best least old entry place → IsPassed g state best least new entry place
  IsPassed-kept least entry place kept passed = λ there hop strong unbeaten. IsIn-kept kept (passed there hop strong unbeaten)

  -- a root that is in stays so
  pub IsRootIn-kept : {old new : List Found} {least node : ℕ} → Keeps old new →
      IsRootIn rail g state best least old node → IsRootIn rail g state best least new node
  IsRootIn-kept kept root_in = λ root strong. IsIn-kept kept (root_in root strong)

  -- one more entry, for a node that isn't seen, with the strength of the moment
  pub taken : {strength : ℕ} {found : List Found} {seen : List Bool} → IsSearch rail g state best strength found seen →
      (entry : Found) → entry.strength ≡ strength → slice_get seen entry.node ≡ Some false →
      IsNew rail g state best found entry →
      IsSearch rail g state best strength (found ++ entry ∷ []) (slice_set seen entry.node true)
  taken {strength} {found} {seen} sound entry now fresh new =
      let longer : List Found = found ++ entry ∷ [] in
      let kept : Keeps found longer = Keeps-append found entry in
      let at_end : slice_get longer (length found) ≡ Some entry = get-last found entry in
      let inside : entry.node < length seen = slice_get_within seen entry.node false fresh in
      let unlike : (k : ℕ) (x : Found) → slice_get found k ≡ Some x → x.node ≢ entry.node =
      λ k x at same. let mark : slice_get seen entry.node ≡ Some true = rw same at (sound.marked k x at) in absurd (cc) in
      record {
        each = λ k x at. elim (get-cases found entry k x at) [
          | inl old ↦ IsFoundBy-kept found longer k x x.last kept (sound.each k x old)
          | inr last ↦
              let P : ℕ → Found → Type 0 = λ n e. IsFoundBy rail g state best longer n e e.last in
              let here : P (length found) entry = IsFoundBy-kept found longer (length found) entry entry.last kept new in
              subst (λ n. P n x) (sym last.0) (subst (P (length found)) (sym last.1) here)
        ];
        strong = λ k x at. elim (get-cases found entry k x at) [
          | inl old ↦ sound.strong k x old
          | inr last ↦ omega (arith, ap (λ (e : Found). e.strength) last.1)
        ];
        inside = λ k x at. elim (get-cases found entry k x at) [
          | inl old ↦ sound.inside k x old
          | inr last ↦ omega (arith, ap (λ (e : Found). e.node) last.1, sound.marks)
        ];
        marked = λ k x at. elim (get-cases found entry k x at) [
          | inl old ↦ mark-still seen entry.node x.node (sound.marked k x old)
          | inr last ↦ rw (ap (λ (e : Found). e.node) last.1) (mark-set seen entry.node inside)
        ];
        known = λ node at. elim (cases_eq node entry.node) [
          | inl same ↦ record { place = length found; entry = entry; here = at_end; named = sym same; strong = omega arith }
          | inr apart ↦ IsIn-kept kept (sound.known node (mark-other seen entry.node node true apart at))
        ];
        apart = λ j k x y at_j at_k same. elim (get-cases found entry j x at_j) [
          | inl old_j ↦ elim (get-cases found entry k y at_k) [
            | inl old_k ↦ sound.apart j k x y old_j old_k same
            | inr last_k ↦ absurd (unlike j x old_j (same ∙ ap (λ (e : Found). e.node) last_k.1))
          ]
          | inr last_j ↦ elim (get-cases found entry k y at_k) [
            | inl old_k ↦ absurd (unlike k y old_k (sym same ∙ ap (λ (e : Found). e.node) last_j.1))
            | inr last_k ↦ last_j.0 ∙ sym last_k.0
          ]
        ];
        count = omega (arith, sound.count, unseen-set seen entry.node fresh, length-append found (entry ∷ []));
        marks = length-set seen entry.node true ∙ sound.marks;
        settled = λ k x at. elim (get-cases found entry k x at) [
          | inl old ↦ λ place. IsPassed-kept (strength + 1) x place kept (sound.settled k x old place)
          | inr last ↦ λ place there hop strong unbeaten.
              absurd (omega (arith, Hop-weaker hop, ap (λ (e : Found). e.strength) last.1))
        ];
        roots = λ node. IsRootIn-kept kept (sound.roots node);
      }

  -- a place over which no hop leads on is passed
  pub passed_nowhere : {strength : ℕ} {found : List Found} {seen : List Bool} → IsSearch rail g state best strength found seen →
      (from : ℕ) (entry : Found) (place : ℕ) → slice_get found from ≡ Some entry →
      Lands g state best strength entry place None → IsPassed g state best strength found entry place
  passed_nowhere {strength} sound from entry place at nowhere = λ there hop strong unbeaten.
      elim (cases_lt strength there.strength) [
        | inl more ↦ sound.settled from entry at place there hop (omega arith) unbeaten
        | inr most ↦ absurd (nowhere there hop strong (omega arith))
      ]

  -- and so is one over which a hop leads to a node that was found
  pub passed_found : {strength : ℕ} {found : List Found} {seen : List Bool} → IsSearch rail g state best strength found seen →
      (from : ℕ) (entry : Found) (place node : ℕ) → slice_get found from ≡ Some entry →
      LandsAt g state best strength entry place node → IsIn found node strength → IsPassed g state best strength found entry place
  passed_found {strength} sound from entry place node at lands is_in = λ there hop strong unbeaten.
      elim (cases_lt strength there.strength) [
        | inl more ↦ sound.settled from entry at place there hop (omega arith) unbeaten
        | inr most ↦
            let same : lands.there ≡ there = Hop-unique lands.hop hop in
            let named : node ≡ there.node = sym lands.ends ∙ ap (λ (x : Stand). x.node) same in
            IsIn-lower (IsIn-named named is_in) most
      ]

  -- a node that is no root of this level is in, if it is asked
  pub rooted_not : {strength : ℕ} {found : List Found} {seen : List Bool} → IsSearch rail g state best strength found seen →
      (node : ℕ) → (¬ IsRootOf rail g state best strength node) → IsRootIn rail g state best strength found node
  rooted_not {strength} sound node none = λ root strong.
      elim (cases_lt strength (level_of g node)) [
        | inl more ↦ sound.roots node root (omega arith)
        | inr most ↦ absurd (none (record { root = root; level = omega arith }))
      ]

  -- and so is one that was found
  pub rooted_found : {strength : ℕ} {found : List Found} {seen : List Bool} → IsSearch rail g state best strength found seen →
      (node : ℕ) → IsIn found node strength → IsRootIn rail g state best strength found node
  rooted_found {strength} sound node is_in = λ root strong.
      elim (cases_lt strength (level_of g node)) [
        | inl more ↦ sound.roots node root (omega arith)
        | inr most ↦ IsIn-lower is_in most
      ]

  -- an entry from which each hop over the places at its node was passed is settled
  pub settled_by : {least : ℕ} {found : List Found} (ends : List (Vec ℕ Global)) → HaveSwitches g ends → (entry : Found) →
      ((place : ℕ) → Contains (list_at ends entry.node) place → IsPassed g state best least found entry place) →
      IsSettled g state best least found entry
  settled_by ends switches entry passed = λ place there hop strong unbeaten.
      let both = switches place hop.switch hop.at_place in
      let near : Contains (list_at ends entry.node) place =
      elim hop.joins [ inl p ↦ rw (← p.0) both.0 | inr p ↦ rw (← p.0) both.1 ] in
      passed place near there hop strong unbeaten

  -- if all is settled at a strength, the search goes on with the next one
  pub lowered : {strength : ℕ} {found : List Found} {seen : List Bool} → 0 < strength → IsSearch rail g state best strength found seen →
      ((k : ℕ) (entry : Found) → slice_get found k ≡ Some entry → IsSettled g state best strength found entry) →
      ((node : ℕ) → IsRootIn rail g state best strength found node) →
      IsSearch rail g state best (strength - 1) found seen
  lowered {strength} {found} {seen} some sound settled roots =
      let next : strength - 1 + 1 ≡ strength = omega arith in
      record {
        each = sound.each;
        strong = λ k x at. omega (arith, sound.strong k x at);
        inside = sound.inside;
        marked = sound.marked;
        known = λ node at. IsIn-lower (sound.known node at) (omega arith);
        apart = sound.apart;
        count = sound.count;
        marks = sound.marks;
        settled = rw next settled;
        roots = rw next roots;
      }

  -- before anything is found, nothing that is stronger than every level is missing
  pub started : IsWired g → IsSearch rail g state best INPUT_LEVEL [] (replicate (nodes g) false)
  started wired = record {
    each = λ k x at. absurd (cc);
    strong = λ k x at. absurd (cc);
    inside = λ k x at. absurd (cc);
    marked = λ k x at. absurd (cc);
    known = λ node at.
        let inside : node < nodes g =
        omega (arith, slice_get_within (replicate (nodes g) false) node true at, length-replicate (nodes g) false) in
        let is : get_or (replicate (nodes g) false) node true ≡ true =
        get_or_from_slice_get (replicate (nodes g) false) node true true at in
        let not : get_or (replicate (nodes g) false) node true ≡ false = get_or-replicate (nodes g) node false true inside in
        absurd (cc);
    apart = λ j k x y at_j at_k same. absurd (cc);
    count = omega (arith, sum_by-replicate not_seen (nodes g) false);
    marks = length-replicate (nodes g) false;
    settled = λ k x at. absurd (cc);
    roots = λ node root strong. absurd (omega (arith, (level_fits g wired node root.in_range).high));
  }

module _ (rail : Tern → Bool) (g : GraphData) (state : List Tern) (best : List ℕ) {strength : ℕ} {found : List Found}
    {seen : List Bool} (sound : IsSearch rail g state best strength found seen) where
  -- a root that is taken
  pub rooted : (node : ℕ) → IsRootOf rail g state best strength node → slice_get seen node ≡ Some false →
      IsSearch rail g state best strength (found ++ record { node = node; strength = strength; last = None } ∷ [])
      (slice_set seen node true)
  rooted node root fresh =
      let entry : Found = record { node = node; strength = strength; last = None } in
      taken rail g state best sound entry refl fresh (record { root = root.root; strong = omega (arith, root.level) })

  -- a node that a hop lands at and that is taken
  pub landed : (from : ℕ) (entry : Found) (place node : ℕ) → slice_get found from ≡ Some entry →
      LandsAt g state best strength entry place node → slice_get seen node ≡ Some false →
      IsSearch rail g state best strength
      (found ++ record { node = node; strength = strength; last = Some (record { place = place; from = from }) } ∷ [])
      (slice_set seen node true)
  landed from entry place node at lands fresh =
      let last : Last = record { place = place; from = from } in
      let next : Found = record { node = node; strength = strength; last = Some last } in
      taken rail g state best sound next refl fresh (record {
        earlier = slice_get_within found from entry at;
        from = entry;
        at_from = at;
        over = record { there = lands.there; hop = lands.hop; ends = lands.ends; strong = lands.strong; unbeaten = lands.unbeaten };
      })

-- an entry that is taken is in
pub entered : (found : List Found) (entry : Found) → IsIn (found ++ entry ∷ []) entry.node entry.strength
entered found entry = record {
  place = length found;
  entry = entry;
  here = get-last found entry;
  named = refl;
  strong = omega arith;
}

-- what stands at a place is what was read there
pub read_at : {X : Type 0} (xs : List X) (k : ℕ) (read x : X) → k < length xs → read ≡ get_or xs k read →
    slice_get xs k ≡ Some x → read ≡ x
read_at xs k read x inside is at = let found = slice_get_read xs (length xs) k read refl inside is in cc

-- the list of one node was changed: the lists of the others are as before
list_at-other : (lists : List (Vec ℕ Global)) (node other : ℕ) (list : Vec ℕ Global) → other ≢ node →
    list_at (slice_set lists node list) other ≡ list_at lists other
list_at-other lists node other list apart =
    elim (cases_lt other (length lists)) [
      | inl inside ↦
          let new = slice_get-get_or (set lists node list) other list (omega (arith, length-set lists node list)) in
          let old = slice_get-get_or lists other list inside in
          let same = get_or-set_other lists node other list list apart in
          ap (λ (o : Option (Vec ℕ Global)). option_map_or (λ (l : Vec ℕ Global). l.items) o []) (new ∙ ap Some same ∙ sym old)
      | inr outside ↦
          let new = slice_get_past (set lists node list) other (omega (arith, length-set lists node list)) in
          let old = slice_get_past lists other outside in
          ap (λ (o : Option (Vec ℕ Global)). option_map_or (λ (l : Vec ℕ Global). l.items) o []) (new ∙ sym old)
    ]

-- and its own is what was written
list_at-same : (lists : List (Vec ℕ Global)) (node : ℕ) (list : Vec ℕ Global) → node < length lists →
    list_at (slice_set lists node list) node ≡ list.items
list_at-same lists node list inside =
    let new = slice_get-get_or (set lists node list) node list (omega (arith, length-set lists node list)) in
    ap (λ (o : Option (Vec ℕ Global)). option_map_or (λ (l : Vec ℕ Global). l.items) o [])
    (new ∙ ap Some (get_or-set_same lists node list list inside))

-- what was read at a node is its list
pub list_at-read : (lists : List (Vec ℕ Global)) (node : ℕ) (list : Vec ℕ Global) → node < length lists →
    list ≡ get_or lists node list → list_at lists node ≡ list.items
list_at-read lists node list inside is =
    ap (λ (o : Option (Vec ℕ Global)). option_map_or (λ (l : Vec ℕ Global). l.items) o [])
    (slice_get_read lists (length lists) node list refl inside is)

-- where a list gets one place more, each list keeps its places
pub noted_kept : (lists : List (Vec ℕ Global)) (node place : ℕ) (old new : Vec ℕ Global) → node < length lists →
    old ≡ get_or lists node old → new.items ≡ old.items ++ place ∷ [] →
    (other mark : ℕ) → Contains (list_at lists other) mark → Contains (list_at (slice_set lists node new) other) mark
noted_kept lists node place old new inside is longer other mark there =
    elim (cases_eq other node) [
      | inl same ↦
          let before : Contains old.items mark = rw (same, list_at-read lists node old inside is) at there in
          let after : Contains new.items mark = rw longer (Contains-append_left old.items (place ∷ []) mark before) in
          rw (same, list_at-same lists node new inside) after
      | inr apart ↦ rw (list_at-other lists node other new apart) there
    ]

-- and that one has the place
pub noted_here : (lists : List (Vec ℕ Global)) (node place : ℕ) (old new : Vec ℕ Global) → node < length lists →
    new.items ≡ old.items ++ place ∷ [] → Contains (list_at (slice_set lists node new) node) place
noted_here lists node place old new inside longer =
    rw (list_at-same lists node new inside, longer) (Contains-push old.items place)

-- what stands at a place that was there before, stood there before
kept_back : (old new : List Found) → Keeps old new → (k : ℕ) (entry : Found) → k < length old →
    slice_get new k ≡ Some entry → slice_get old k ≡ Some entry
kept_back old new kept k entry inside at =
    let was = slice_get-get_or old k entry inside in
    let still = kept k (get_or old k entry) was in
    let same : get_or old k entry ≡ entry = cc in
    was ∙ ap Some same

-- one entry more is settled, and those before it stay so
pub settled_more : (g : GraphData) (state : List Tern) (best : List ℕ) (least : ℕ) (old new : List Found) → Keeps old new →
    (from : ℕ) (entry : Found) → slice_get old from ≡ Some entry →
    ((k : ℕ) (e : Found) → k < from → slice_get old k ≡ Some e → IsSettled g state best least old e) →
    IsSettled g state best least new entry →
    (k : ℕ) (e : Found) → k < from + 1 → slice_get new k ≡ Some e → IsSettled g state best least new e
settled_more g state best least old new kept from entry here below settled k e less at =
    elim (cases_lt k from) [
      | inl before ↦
          let inside : k < length old = omega (arith, slice_get_within old from entry here) in
          let was = below k e before (kept_back old new kept k e inside at) in
          λ place there hop strong unbeaten. IsIn-kept kept (was place there hop strong unbeaten)
      | inr past ↦
          let is : k ≡ from = omega arith in
          let still = kept from entry here in
          let same : entry ≡ e = let there = rw is at at in cc in
          subst (λ (x : Found). IsSettled g state best least new x) same settled
    ]

-- one place more is passed, and those before it stay so
pub passed_more : (g : GraphData) (state : List Tern) (best : List ℕ) (least : ℕ) (old new : List Found) → Keeps old new →
    (entry : Found) (places : List ℕ) (count : ℕ) → count < length places →
    ((place : ℕ) → Contains (take count places) place → IsPassed g state best least old entry place) →
    IsPassed g state best least new entry (get_or places count 0) →
    (place : ℕ) → Contains (take (count + 1) places) place → IsPassed g state best least new entry place
passed_more g state best least old new kept entry places count inside below here place near =
    let longer = rw (take_more places count 0 inside) at near in
    elim (Contains-push_cases (take count places) (get_or places count 0) place longer) [
      | inl before ↦ λ there hop strong unbeaten. IsIn-kept kept (below place before there hop strong unbeaten)
      | inr same ↦ subst (λ (x : ℕ). IsPassed g state best least new entry x) same here
    ]
