-- Laws of reasons: what was found is a best reason, and where nothing was found there is none.
-- A trail is read back over earlier and earlier places of the list, so it stands at no node twice, since no node
-- is found twice; and along any unblocked path each stand was found, at least as strong.
use Rattle.std.proofs.Common.{◌≡◌, ℕ, ◌+◌, ◌<◌, ◌≤◌, Bool, true, inl, inr, List, [], ◌∷◌, ◌++◌, length, take, reverse, Some, None, refl, sym, ◌∙◌, ap, subst, arith, append_assoc, length-append}
use Rattle.std.specs.Prelude.{slice_get, slice_index}
use Rattle.std.proofs.lemmas.Bool.{cases_lt}
use Rattle.std.proofs.lemmas.List.{take-append-le, take_all, take-take, length-take-le, reverse-append}
use Rattle.ternary.specs.declared.tern.Tern.{Tern}
use Rattle.switch_paths.specs.Switching.{state_at}
use Rattle.switch_paths.specs.Graphs.{GraphData, IsWired, nodes, level_of}
use Rattle.switch_paths.specs.Path.{Stand, Hop, at_root, IsBeaten}
use Rattle.switch_paths.specs.Plain.{AreStrongest}
use Rattle.switch_paths.proofs.PathLemmas.{beyond, Hop-over, Hop-in_range, level_fits, Leads-unique, Leads-positive, Leads-weaker, Goes, Goes-here, Goes-leads, Goes-more, Goes-from_unblocked, unblocked-from_Goes}
use Rattle.switch_paths.proofs.TableMeaning.{unbeaten, most_unbeaten}
use Rattle.why_path.specs.declared.search.Found.{Found}
use Rattle.why_path.specs.declared.search.Last.{Last}
use Rattle.why_path.specs.Reasons.{IsReason, PassesTwice, IsBestReason}
use Rattle.why_path.specs.Search.{stand_at, IsFoundBy, IsFoundAtRoot, IsFoundFrom, IsIn, IsSearch, IsTrail, LeadBack, IsEntryOf}
use Rattle.why_path.specs.Search.IsTrail.{starts, goes_on}
use Rattle.why_path.proofs.FoundLemmas.{IsIn-lower, IsIn-named}

-- a trail has an entry at its end
trail-entry : {found : List Found} {k : ℕ} {hops : List ℕ} {root : ℕ} → IsTrail found k hops root →
    (entry : Found) × (slice_get found k ≡ Some entry)
trail-entry (starts k entry here none) = (entry, here)
trail-entry (goes_on k entry last hops root here is trail) = (entry, here)

-- a trail to an earlier place
record IsFront (found : List Found) (k : ℕ) (hops : List ℕ) (root count : ℕ) : Type 0 where
  place : ℕ
  trail : IsTrail found place (take count hops) root
  no_later : place ≤ k
  earlier : count < length hops → place < k

-- so many hops of a trail are a trail to an earlier place
front : (found : List Found) → LeadBack found → (k : ℕ) (hops : List ℕ) (root : ℕ) → IsTrail found k hops root →
    (count : ℕ) → count ≤ length hops → IsFront found k hops root count
front found back k hops root (starts n entry here none) count few = record {
  place = n;
  trail = rw (take_all {A = ℕ} count [] (omega arith)) (starts n entry here none);
  no_later = omega arith;
  earlier = λ less. absurd (omega arith);
}
front found back k hops root (goes_on n entry last before r here is trail) count few =
    let whole : List ℕ = before ++ last.place ∷ [] in
    let long : length whole ≡ length before + 1 = length-append before (last.place ∷ []) in
    elim (cases_lt (length before) count) [
      | inl all ↦ record {
        place = n;
        trail = rw (take_all count whole (omega arith)) (goes_on n entry last before r here is trail);
        no_later = omega arith;
        earlier = λ less. absurd (omega arith);
      }
      | inr some ↦
          let rest = front found back last.from before r trail count some in
          let less : last.from < n = back n entry last here is in
          record {
            place = rest.place;
            trail = rw (take-append-le count before (last.place ∷ []) some) rest.trail;
            no_later = omega (arith, rest.no_later);
            earlier = λ within. omega (arith, rest.no_later);
          }
    ]

-- the path of a trail: it isn't blocked, leads to the entry's node, at least as strong, from a root that has the rail
record Arrival (rail : Tern → Bool) (g : GraphData) (state : List Tern) (entry : Found) (root : ℕ) (hops : List ℕ) : Type 0 where
  in_range : root < nodes g
  there : Stand
  goes : Goes g state (at_root g root) hops there
  ends : there.node ≡ entry.node
  strong : entry.strength ≤ there.strength
  set : rail (state_at state root) ≡ true

module _ (rail : Tern → Bool) (g : GraphData) (wired : IsWired g) (state : List Tern) (best : List ℕ)
    (strongest : AreStrongest g state best) where
  -- a root arrives at itself
  arrives_root : (entry : Found) → IsFoundAtRoot rail g state best entry → Arrival rail g state entry entry.node []
  arrives_root entry by = record {
    in_range = by.root.in_range;
    there = at_root g entry.node;
    goes = (unbeaten g state best strongest entry.node (level_of g entry.node) by.root.unbeaten, refl);
    ends = refl;
    strong = by.strong;
    set = by.root.set;
  }

  -- and what arrives goes on to what was found from there
  arrives_next : (found : List Found) (k : ℕ) (entry : Found) (last : Last) (hops : List ℕ) (root : ℕ) →
      (by : IsFoundFrom g state best found k entry last) → Arrival rail g state by.from root hops →
      Arrival rail g state entry root (hops ++ last.place ∷ [])
  arrives_next found k entry last hops root by before =
      let mid = before.there in
      let hop = by.over.hop in
      let next : Stand = beyond state mid hop.switch by.over.there.node in
      let over : Hop g state mid last.place next = Hop-over hop.at_place (rw before.ends hop.joins) hop.live in
      let strong : entry.strength ≤ next.strength = omega (arith, hop.strength, by.over.strong, before.strong) in
      let free : ¬ IsBeaten g state next.node next.strength =
      unbeaten g state best strongest next.node next.strength
      (omega (arith, by.over.unbeaten, ap (slice_index best) by.over.ends)) in
      record {
        in_range = before.in_range;
        there = next;
        goes = Goes-more g state hops (at_root g root) mid next last.place before.goes over free;
        ends = by.over.ends;
        strong = strong;
        set = before.set;
      }

  module _ (found : List Found) (seen : List Bool) (sound : IsSearch rail g state best 0 found seen) where
    -- a trail is an unblocked path to its entry
    arrives : (k : ℕ) (hops : List ℕ) (root : ℕ) → IsTrail found k hops root → (entry : Found) →
        slice_get found k ≡ Some entry → Arrival rail g state entry root hops
    arrives k hops root (starts n first here none) entry at =
        let same : first ≡ entry = cc in
        let by = subst (IsFoundBy rail g state best found n first) none (sound.each n first here) in
        subst (λ (x : Found). Arrival rail g state x first.node []) same (arrives_root first by)
    arrives k hops root (goes_on n first last before r here is trail) entry at =
        let same : first ≡ entry = cc in
        let by = subst (IsFoundBy rail g state best found n first) is (sound.each n first here) in
        subst (λ (x : Found). Arrival rail g state x r (before ++ last.place ∷ [])) same
        (arrives_next found n first last before r by (arrives last.from before r trail by.from by.at_from))

    -- each entry that was found by a hop was found from an earlier place
    pub lead_back : LeadBack found
    lead_back = λ k entry last here is. (subst (IsFoundBy rail g state best found k entry) is (sound.each k entry here)).earlier

    -- over a hop that isn't blocked the next stand was found, where this one was
    found_next : (here next : Stand) (place : ℕ) → Hop g state here place next → (¬ IsBeaten g state next.node next.strength) →
        1 ≤ next.strength → IsIn found here.node here.strength → IsIn found next.node next.strength
    found_next here next place hop free some is_in =
        let from = stand_at is_in.entry in
        let there : Stand = beyond state from hop.switch next.node in
        let over : Hop g state from place there = Hop-over hop.at_place (rw is_in.named hop.joins) hop.live in
        let strong : next.strength ≤ there.strength = omega (arith, hop.strength, is_in.strong) in
        let least = most_unbeaten g state best strongest next.node next.strength (Hop-in_range wired hop) free in
        IsIn-lower (sound.settled is_in.place is_in.entry is_in.here place there over (omega arith) (omega arith)) strong

    -- along an unblocked path each stand was found, at least as strong
    follows : (hops : List ℕ) (here there : Stand) → Goes g state here hops there → 1 ≤ there.strength →
        IsIn found here.node here.strength → IsIn found there.node there.strength
    follows [] here there goes some is_in = rw (← goes.1) is_in
    follows (place ∷ hops) here there goes some is_in =
        let next = goes.1.0 in
        let weaker = Leads-weaker g state hops next there (Goes-leads g state hops next there goes.1.2) in
        follows hops next there goes.1.2 some
        (found_next here next place goes.1.1 (Goes-here g state hops next there goes.1.2) (omega arith) is_in)

    -- so the node of each reason was found, at least as strong
    reason_found : (node root : ℕ) (hops : List ℕ) → (reason : IsReason rail g state node root hops) →
        IsIn found node reason.there.strength
    reason_found node root hops reason =
        let start = at_root g root in
        let there = reason.there in
        let goes = Goes-from_unblocked g state root hops there reason.path reason.unblocked in
        let in_range = reason.path.in_range in
        let low = (level_fits g wired root in_range).low in
        let free = most_unbeaten g state best strongest root (level_of g root) in_range (Goes-here g state hops start there goes) in
        let first = sound.roots root (record { in_range = in_range; set = reason.set; unbeaten = free }) low in
        let positive = Leads-positive g state wired hops start there reason.path.leads low in
        IsIn-named reason.ends (follows hops start there goes positive first)

    -- a trail passes no node twice
    once : (k : ℕ) (hops : List ℕ) (root : ℕ) → IsTrail found k hops root → ¬ PassesTwice g state root hops
    once k hops root trail twice =
        let later = front found lead_back k hops root trail twice.second twice.inside in
        let long : length (take twice.second hops) ≡ twice.second = length-take-le twice.second hops twice.inside in
        let earlier = front found lead_back later.place (take twice.second hops) root later.trail twice.first (omega arith) in
        let short : take twice.first (take twice.second hops) ≡ take twice.first hops = take-take twice.first twice.second hops (omega arith) in
        let one = trail-entry earlier.trail in
        let two = trail-entry later.trail in
        let at_one = arrives earlier.place (take twice.first hops) root (rw short at earlier.trail) one.0 one.1 in
        let at_two = arrives later.place (take twice.second hops) root later.trail two.0 two.1 in
        let start = at_root g root in
        let first : at_one.there ≡ twice.before =
        Leads-unique g state (take twice.first hops) start at_one.there twice.before
        (Goes-leads g state (take twice.first hops) start at_one.there at_one.goes) twice.to_before.leads in
        let second : at_two.there ≡ twice.after =
        Leads-unique g state (take twice.second hops) start at_two.there twice.after
        (Goes-leads g state (take twice.second hops) start at_two.there at_two.goes) twice.to_after.leads in
        let node : Stand → ℕ = λ x. x.node in
        let same : one.0.node ≡ two.0.node =
        sym at_one.ends ∙ ap node first ∙ twice.same ∙ sym (ap node second) ∙ at_two.ends in
        let place : earlier.place ≡ later.place = sound.apart earlier.place later.place one.0 two.0 one.1 two.1 same in
        absurd (omega (arith, earlier.earlier (omega arith)))

    -- the trail to the node's entry is a best reason
    pub best_reason : (node k : ℕ) (hops : List ℕ) (root : ℕ) → IsEntryOf found node (Some k) → IsTrail found k hops root →
        IsBestReason rail g state node root hops
    best_reason node k hops root entry_of trail =
        let entry = entry_of.0 in
        let way = arrives k hops root trail entry entry_of.1 in
        let reason : IsReason rail g state node root hops = record {
          there = way.there;
          path = record { in_range = way.in_range; leads = Goes-leads g state hops (at_root g root) way.there way.goes };
          ends = way.ends ∙ entry_of.2;
          unblocked = unblocked-from_Goes g state root hops way.there way.goes;
          set = way.set;
        } in
        record {
          reason = reason;
          once = once k hops root trail;
          most = λ other_root other_hops other.
              let is_in = reason_found node other_root other_hops other in
              let place : is_in.place ≡ k =
              sound.apart is_in.place k is_in.entry entry is_in.here entry_of.1 (is_in.named ∙ sym entry_of.2) in
              let same : is_in.entry ≡ entry = let here = rw place at is_in.here in let there = entry_of.1 in cc in
              omega (arith, is_in.strong, way.strong, ap (λ (x : Found). x.strength) same);
        }

    -- and where the node has none, there is no reason
    pub no_reason : (node : ℕ) → IsEntryOf found node None → (root : ℕ) (hops : List ℕ) → ¬ IsReason rail g state node root hops
    no_reason node none root hops reason =
        let is_in = reason_found node root hops reason in
        none is_in.place is_in.entry is_in.here is_in.named

-- a trail that is read from its end: one hop more before the hops so far
pub trail_back : (found : List Found) (at k : ℕ) (entry : Found) (last : Last) (so_far more : List ℕ) →
    slice_get found k ≡ Some entry → entry.last ≡ Some last → more ≡ so_far ++ last.place ∷ [] →
    ((front : List ℕ) (root : ℕ) → IsTrail found k front root → IsTrail found at (front ++ reverse so_far) root) →
    (front : List ℕ) (root : ℕ) → IsTrail found last.from front root → IsTrail found at (front ++ reverse more) root
trail_back found at k entry last so_far more here is grew leads front root trail =
    let turned : reverse more ≡ (last.place ∷ []) ++ reverse so_far = ap reverse grew ∙ reverse-append so_far (last.place ∷ []) in
    let longer = leads (front ++ last.place ∷ []) root (goes_on k entry last front root here is trail) in
    rw turned (rw append_assoc at longer)
