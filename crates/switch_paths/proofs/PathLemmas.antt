-- Laws of paths, over one graph and one state: a path taken apart at any of its stands, and the unblocked path
-- as a recursion.
-- A path is followed hop by hop from its root. `Goes` says of each stand that no stronger definite path leads
-- there, so an unblocked path is one that goes; the last lemma, that a stronger stand goes at least as far,
-- carries the laws of cycles and of joined paths.
use Rattle.std.proofs.Common.{◌≡◌, ℕ, ◌<◌, ◌≤◌, min, true, false, ◌&&◌, Bool, inl, inr, List, [], ◌∷◌, ◌++◌, length, Option, Some, None, refl, ◌∙◌, arith, append_assoc}
use Rattle.std.proofs.lemmas.Bool.{cases_lt}
use Rattle.std.proofs.Math.ListN.{get_or-eq_default}
use Rattle.ternary.specs.declared.tern.Tern.{Tern}
use Rattle.switch_paths.specs.declared.switching.Switch.{Switch}
use Rattle.switch_paths.specs.Switching.{is_closed, is_live, switch_state_at}
use Rattle.strength_order.specs.Levels.{IsLevel}
use Rattle.switch_paths.specs.Graphs.{GraphData, IsWired, Fits, nodes, level_of, place_at}
use Rattle.switch_paths.specs.Path.{Stand, Joins, Hop, Leads, at_root, LivePath, IsBeaten, IsBlocked, Reaches}

-- the node at a definite path's end is beaten at each lower strength
abbrev pub IsBeaten-path : {g : GraphData} {state : List Tern} {node strength : ℕ} (root : ℕ) (hops : List ℕ) (there : Stand) →
    LivePath g state root hops there → there.node ≡ node → there.definite ≡ true → strength < there.strength → IsBeaten g state node strength
IsBeaten-path root hops there path ends definite stronger =
    record { root = root; hops = hops; there = there; path = path; ends = ends; definite = definite; strong = stronger }

-- what a definite path beats, it beats all the more at a lower strength
pub IsBeaten-lower : {g : GraphData} {state : List Tern} {node low high : ℕ} →
    IsBeaten g state node high → low ≤ high → IsBeaten g state node low
IsBeaten-lower beaten most =
    IsBeaten-path beaten.root beaten.hops beaten.there beaten.path beaten.ends beaten.definite (omega (arith, beaten.strong))

-- stands with the same node, strength and definiteness are one stand
pub same_stand : (x y : Stand) → x.node ≡ y.node → x.strength ≡ y.strength → x.definite ≡ y.definite → x ≡ y
same_stand x y node strength definite = λ i. record { node = node i; strength = strength i; definite = definite i }

-- over one place at most one hop leads from a stand
pub Hop-unique : {g : GraphData} {state : List Tern} {here x y : Stand} {place : ℕ} →
    Hop g state here place x → Hop g state here place y → x ≡ y
Hop-unique {g} {state} {here} {x} {y} one two =
    let same : one.switch ≡ two.switch = cc in
    let node : x.node ≡ y.node =
    elim one.joins [
      | inl p ↦ elim two.joins [ inl q ↦ cc | inr q ↦ cc ]
      | inr p ↦ elim two.joins [ inl q ↦ cc | inr q ↦ cc ]
    ] in
    let strength : x.strength ≡ y.strength = cc in
    let definite : x.definite ≡ y.definite = cc in
    same_stand x y node strength definite

-- where a switch stands there is a place
pub place_inside : (places : List (Option Switch)) (place : ℕ) (switch : Switch) →
    place_at places place ≡ Some switch → place < length places
place_inside places place switch stands =
    elim (cases_lt place (length places)) [
      | inl inside ↦ inside
      | inr outside ↦ let none : place_at places place ≡ None = get_or-eq_default places None outside in absurd (cc)
    ]

-- a switch of a graph fits it
pub switch_fits : (g : GraphData) → IsWired g → (place : ℕ) (switch : Switch) →
    place_at g.places place ≡ Some switch → Fits (nodes g) switch
switch_fits g wired place switch stands =
    rw stands at (wired.places place None (place_inside g.places place switch stands))

-- a node's level is a level
pub level_fits : (g : GraphData) → IsWired g → (node : ℕ) → node < nodes g → IsLevel (level_of g node)
level_fits g wired node in_range = wired.levels node 0 in_range

-- where a path stands that has gone over a switch
abbrev pub beyond : List Tern → Stand → Switch → ℕ → Stand
beyond state here switch node = record {
  node = node;
  strength = min here.strength switch.level;
  definite = here.definite && is_closed (switch_state_at state switch);
}

-- a path hops over each switch at its node that isn't open
pub Hop-over : {g : GraphData} {state : List Tern} {here : Stand} {place node : ℕ} {switch : Switch} →
    place_at g.places place ≡ Some switch → Joins switch here.node node → is_live (switch_state_at state switch) ≡ true →
    Hop g state here place (beyond state here switch node)
Hop-over {g} {state} {here} {place} {node} {switch} stands joins live = record {
  switch = switch;
  at_place = stands;
  joins = joins;
  live = live;
  strength = refl;
  definite = refl;
}

-- a hop leads to a node of the graph
pub Hop-in_range : {g : GraphData} {state : List Tern} {here there : Stand} {place : ℕ} →
    IsWired g → Hop g state here place there → there.node < nodes g
Hop-in_range {g} {state} {here} {there} {place} wired hop =
    let fits = switch_fits g wired place hop.switch hop.at_place in
    elim hop.joins [ inl p ↦ rw (← p.1) fits.b | inr p ↦ rw (← p.1) fits.a ]

-- a hop leads to no stronger stand
pub Hop-weaker : {g : GraphData} {state : List Tern} {here there : Stand} {place : ℕ} →
    Hop g state here place there → there.strength ≤ here.strength
Hop-weaker hop = omega arith

-- a conjunction that holds has a first part that holds
pub and-first : (a b : Bool) → (a && b) ≡ true → a ≡ true
and-first true b both = refl
and-first false b both = both

module _ (g : GraphData) (state : List Tern) where
  -- one hop more at the far end
  pub Leads-more : (hops : List ℕ) (here mid there : Stand) (place : ℕ) →
      Leads g state here hops mid → Hop g state mid place there → Leads g state here (hops ++ place ∷ []) there
  Leads-more [] here mid there place leads hop = (there, (rw leads hop), refl)
  Leads-more (first ∷ hops) here mid there place leads hop =
      (leads.0, leads.1, Leads-more hops leads.0 mid there place leads.2 hop)

  -- two paths, one after the other, are a path
  pub Leads-append : (front back : List ℕ) (here mid there : Stand) →
      Leads g state here front mid → Leads g state mid back there → Leads g state here (front ++ back) there
  Leads-append [] back here mid there one two = rw one two
  Leads-append (place ∷ front) back here mid there one two =
      (one.0, one.1, Leads-append front back one.0 mid there one.2 two)

  -- a path leads to one stand alone
  pub Leads-unique : (hops : List ℕ) (here x y : Stand) → Leads g state here hops x → Leads g state here hops y → x ≡ y
  Leads-unique [] here x y one two = cc
  Leads-unique (place ∷ hops) here x y one two =
      let same : one.0 ≡ two.0 = Hop-unique one.1 two.1 in
      Leads-unique hops two.0 x y (rw same at one.2) two.2

  -- a path stands somewhere after each front of it, and goes on from there
  pub Leads-cut : (front back : List ℕ) (here there : Stand) → Leads g state here (front ++ back) there →
      (mid : Stand) × Leads g state here front mid × Leads g state mid back there
  Leads-cut [] back here there leads = (here, refl, leads)
  Leads-cut (place ∷ front) back here there leads =
      let rest = Leads-cut front back leads.0 there leads.2 in
      (rest.0, (leads.0, leads.1, rest.1), rest.2)

  -- what is left of a path after a prefix of it leads on from where that front stands
  pub Leads-split : (front back : List ℕ) (here mid there : Stand) →
      Leads g state here (front ++ back) there → Leads g state here front mid → Leads g state mid back there
  Leads-split [] back here mid there whole part = rw (← part) whole
  Leads-split (place ∷ front) back here mid there whole part =
      let same : whole.0 ≡ part.0 = Hop-unique whole.1 part.1 in
      Leads-split front back part.0 mid there (rw same at whole.2) part.2

  -- a path only grows weaker
  pub Leads-weaker : (hops : List ℕ) (here there : Stand) → Leads g state here hops there → there.strength ≤ here.strength
  Leads-weaker [] here there leads = rw leads (omega arith)
  Leads-weaker (place ∷ hops) here there leads =
      omega (arith, Hop-weaker leads.1, Leads-weaker hops leads.0 there leads.2)

  -- a definite path was definite all along
  pub Leads-definite : (hops : List ℕ) (here there : Stand) →
      Leads g state here hops there → there.definite ≡ true → here.definite ≡ true
  Leads-definite [] here there leads definite = cc
  Leads-definite (place ∷ hops) here there leads definite =
      let next : leads.0.definite ≡ true = Leads-definite hops leads.0 there leads.2 definite in
      and-first here.definite (is_closed (switch_state_at state leads.1.switch)) (rw leads.1.definite at next)

  -- in a graph every path that starts with a level keeps one
  pub Leads-positive : IsWired g → (hops : List ℕ) (here there : Stand) →
      Leads g state here hops there → 1 ≤ here.strength → 1 ≤ there.strength
  Leads-positive wired [] here there leads low = rw (← leads) low
  Leads-positive wired (place ∷ hops) here there leads low =
      let fits = switch_fits g wired place leads.1.switch leads.1.at_place in
      Leads-positive wired hops leads.0 there leads.2 (omega (arith, leads.1.strength, fits.low))

  -- a path from a node of the graph leads to one
  pub Leads-in_range : IsWired g → (hops : List ℕ) (here there : Stand) →
      Leads g state here hops there → here.node < nodes g → there.node < nodes g
  Leads-in_range wired [] here there leads in_range = rw (← leads) in_range
  Leads-in_range wired (place ∷ hops) here there leads in_range =
      Leads-in_range wired hops leads.0 there leads.2 (Hop-in_range wired leads.1)

  -- a strength below a node's level is beaten there, by the empty path
  pub IsBeaten-by_level : (node strength : ℕ) → node < nodes g → strength < level_of g node → IsBeaten g state node strength
  IsBeaten-by_level node strength in_range below =
      IsBeaten-path node [] (at_root g node) (record { in_range = in_range; leads = refl }) refl refl below

  -- no definite path that leads to a node on the way is stronger than the path there: an unblocked path
  abbrev pub Goes : Stand → List ℕ → Stand → Type 0
  Goes here [] there = (¬ IsBeaten g state here.node here.strength) × (here ≡ there)
  Goes here (place ∷ hops) there =
      (¬ IsBeaten g state here.node here.strength) × ((next : Stand) × Hop g state here place next × Goes next hops there)

  -- an unblocked path isn't beaten where it starts
  pub Goes-here : (hops : List ℕ) (here there : Stand) → Goes here hops there → ¬ IsBeaten g state here.node here.strength
  Goes-here [] here there goes = goes.0
  Goes-here (place ∷ hops) here there goes = goes.0

  -- nor where it ends
  pub Goes-there : (hops : List ℕ) (here there : Stand) → Goes here hops there → ¬ IsBeaten g state there.node there.strength
  Goes-there [] here there goes = rw (← goes.1) goes.0
  Goes-there (place ∷ hops) here there goes = Goes-there hops goes.1.0 there goes.1.2

  -- it is a path
  pub Goes-leads : (hops : List ℕ) (here there : Stand) → Goes here hops there → Leads g state here hops there
  Goes-leads [] here there goes = goes.1
  Goes-leads (place ∷ hops) here there goes = (goes.1.0, goes.1.1, Goes-leads hops goes.1.0 there goes.1.2)

  -- two unblocked paths, one after the other, are unblocked
  pub Goes-append : (front back : List ℕ) (here mid there : Stand) →
      Goes here front mid → Goes mid back there → Goes here (front ++ back) there
  Goes-append [] back here mid there one two = rw one.1 two
  Goes-append (place ∷ front) back here mid there one two =
      (one.0, (one.1.0, one.1.1, Goes-append front back one.1.0 mid there one.1.2 two))

  -- one hop more, to where nothing beats it
  pub Goes-more : (hops : List ℕ) (here mid there : Stand) (place : ℕ) →
      Goes here hops mid → Hop g state mid place there → (¬ IsBeaten g state there.node there.strength) →
      Goes here (hops ++ place ∷ []) there
  Goes-more hops here mid there place goes hop unbeaten =
      Goes-append hops (place ∷ []) here mid there goes (Goes-there hops here mid goes, (there, hop, (unbeaten, refl)))

  -- each front of an unblocked path is unblocked
  pub Goes-front : (front back : List ℕ) (here mid there : Stand) →
      Goes here (front ++ back) there → Leads g state here front mid → Goes here front mid
  Goes-front [] back here mid there goes leads = (Goes-here back here there goes, leads)
  Goes-front (place ∷ front) back here mid there goes leads =
      let same : goes.1.0 ≡ leads.0 = Hop-unique goes.1.1 leads.1 in
      (goes.0, (leads.0, leads.1, Goes-front front back leads.0 mid there (rw same at goes.1.2) leads.2))

  -- and what is left of it goes on unblocked
  pub Goes-back : (front back : List ℕ) (here mid there : Stand) →
      Goes here (front ++ back) there → Leads g state here front mid → Goes mid back there
  Goes-back [] back here mid there goes leads = rw (← leads) goes
  Goes-back (place ∷ front) back here mid there goes leads =
      let same : goes.1.0 ≡ leads.0 = Hop-unique goes.1.1 leads.1 in
      Goes-back front back leads.0 mid there (rw same at goes.1.2) leads.2

  -- a path that isn't blocked is beaten after no front of it
  unbeaten_after : (root : ℕ) → root < nodes g → (front back : List ℕ) (here : Stand) →
      Leads g state (at_root g root) front here → (¬ IsBlocked g state root (front ++ back)) →
      ¬ IsBeaten g state here.node here.strength
  unbeaten_after root in_range front back here passed unblocked beaten = unblocked (record {
    front = front;
    back = back;
    splits = refl;
    there = here;
    prefix = record { in_range = in_range; leads = passed };
    beaten = beaten;
  })

  -- so what is left after a front goes
  from_front : (root : ℕ) → root < nodes g → (front back : List ℕ) (here there : Stand) →
      Leads g state (at_root g root) front here → Leads g state here back there → (¬ IsBlocked g state root (front ++ back)) →
      Goes here back there
  from_front root in_range front [] here there passed leads unblocked =
      (unbeaten_after root in_range front [] here passed unblocked, leads)
  from_front root in_range front (place ∷ back) here there passed leads unblocked =
      let longer = Leads-more front (at_root g root) here leads.0 place passed leads.1 in
      let moved : ¬ IsBlocked g state root ((front ++ place ∷ []) ++ back) = rw append_assoc unblocked in
      let rest = from_front root in_range (front ++ place ∷ []) back leads.0 there longer leads.2 moved in
      (unbeaten_after root in_range front (place ∷ back) here passed unblocked, (leads.0, leads.1, rest))

  -- a live path that isn't blocked goes
  pub Goes-from_unblocked : (root : ℕ) (hops : List ℕ) (there : Stand) →
      LivePath g state root hops there → (¬ IsBlocked g state root hops) → Goes (at_root g root) hops there
  Goes-from_unblocked root hops there path unblocked =
      from_front root path.in_range [] hops (at_root g root) there refl path.leads unblocked

  -- a path that goes isn't blocked
  pub unblocked-from_Goes : (root : ℕ) (hops : List ℕ) (there : Stand) → Goes (at_root g root) hops there →
      ¬ IsBlocked g state root hops
  unblocked-from_Goes root hops there goes blocked =
      let whole = rw blocked.splits at goes in
      let start = at_root g root in
      let front = Goes-front blocked.front blocked.back start blocked.there there whole blocked.prefix.leads in
      Goes-there blocked.front start blocked.there front blocked.beaten

  -- the unblocked path by which a root reaches a node
  pub Goes-from_Reaches : (root node : ℕ) (reached : Reaches g state root node) →
      Goes (at_root g root) reached.hops reached.there
  Goes-from_Reaches root node reached = Goes-from_unblocked root reached.hops reached.there reached.path reached.unblocked

  -- a root reaches where a path from it goes
  abbrev pub Reaches-from_Goes : (root node : ℕ) (hops : List ℕ) (there : Stand) →
      root < nodes g → Goes (at_root g root) hops there → there.node ≡ node → Reaches g state root node
  Reaches-from_Goes root node hops there in_range goes ends = record {
    hops = hops;
    there = there;
    path = record { in_range = in_range; leads = Goes-leads hops (at_root g root) there goes };
    ends = ends;
    unblocked = unblocked-from_Goes root hops there goes;
  }

  -- an unblocked path of this strength leads to the node
  pub record Arrives (node strength : ℕ) : Type 0 where
    pub root : ℕ
    pub in_range : root < nodes g
    pub hops : List ℕ
    pub there : Stand
    pub goes : Goes (at_root g root) hops there
    pub ends : there.node ≡ node
    pub strong : there.strength ≡ strength

  -- so its root reaches the node
  abbrev pub Reaches-from_Arrives : {node strength : ℕ} (way : Arrives node strength) → Reaches g state way.root node
  Reaches-from_Arrives {node} way = Reaches-from_Goes way.root node way.hops way.there way.in_range way.goes way.ends

  -- with whatever equals that strength
  abbrev pub Arrives-with : {node strength other : ℕ} (way : Arrives node strength) → strength ≡ other → Arrives node other
  Arrives-with way same = record {
    root = way.root;
    in_range = way.in_range;
    hops = way.hops;
    there = way.there;
    goes = way.goes;
    ends = way.ends;
    strong = way.strong ∙ same;
  }

  -- by its empty path, if nothing is stronger than its level
  abbrev pub Arrives-at_root : (node : ℕ) → node < nodes g → (¬ IsBeaten g state node (level_of g node)) →
      Arrives node (level_of g node)
  Arrives-at_root node in_range unbeaten = record {
    root = node;
    in_range = in_range;
    hops = [];
    there = at_root g node;
    goes = (unbeaten, refl);
    ends = refl;
    strong = refl;
  }

  -- and by one hop more, to where nothing beats it
  abbrev pub Arrives-more : {node strength : ℕ} (way : Arrives node strength) (place : ℕ) (there : Stand) →
      Hop g state way.there place there → (¬ IsBeaten g state there.node there.strength) → Arrives there.node there.strength
  Arrives-more way place there hop unbeaten = record {
    root = way.root;
    in_range = way.in_range;
    hops = way.hops ++ place ∷ [];
    there = there;
    goes = Goes-more way.hops (at_root g way.root) way.there there place way.goes hop unbeaten;
    ends = refl;
    strong = refl;
  }

  -- a stronger stand at the same node isn't beaten either
  raised-unbeaten : (low high : Stand) → (¬ IsBeaten g state low.node low.strength) →
      low.node ≡ high.node → low.strength ≤ high.strength → ¬ IsBeaten g state high.node high.strength
  raised-unbeaten low high unbeaten same most beaten = unbeaten (IsBeaten-lower (rw (← same) at beaten) most)

  -- what goes unblocked from a stand goes so from a stronger one at the same node, to the same node, and is at
  -- least as strong there
  pub Goes-raised : (hops : List ℕ) (low high there : Stand) →
      Goes low hops there → low.node ≡ high.node → low.strength ≤ high.strength →
      (end : Stand) × Goes high hops end × (end.node ≡ there.node) × (there.strength ≤ end.strength)
  Goes-raised [] low high there goes same most =
      (high, (raised-unbeaten low high goes.0 same most, refl), cc, rw (← goes.1) most)
  Goes-raised (place ∷ hops) low high there goes same most =
      let low_next = goes.1.0 in
      let hop = goes.1.1 in
      let next : Stand = beyond state high hop.switch low_next.node in
      let over : Hop g state high place next = Hop-over hop.at_place (rw same at hop.joins) hop.live in
      let raised = Goes-raised hops low_next next there goes.1.2 refl (omega (arith, hop.strength)) in
      (raised.0, (raised-unbeaten low high goes.0 same most, (next, over, raised.1)), raised.2, raised.3)
