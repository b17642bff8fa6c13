-- Values are taken place by place, and entries are listed node by node.
use Rattle.std.proofs.Common.{◌≡◌, ◌≢◌, ℕ, zero, suc, ◌+◌, ◌<◌, ◌≤◌, Bool, true, false, inl, inr, List, [], ◌∷◌, ◌++◌, length, map, refl, sym, ◌∙◌, ap, arith, subst, true≢false}
use Rattle.std.specs.Prelude.{◌||◌, Contains, slice_index_or, slice_set}
use Rattle.std.specs.Bool.{OnTrue, OnFalse}
use Rattle.std.proofs.lemmas.Bool.{cases_eq}
use Rattle.std.proofs.lemmas.List.{ext_get_or, get_or-set_same, get_or-set_other, length-set, length-map, set-get_or, get_or_default, get_or_past}
use Rattle.std.proofs.lemmas.List.Elements.{Contains-append_left, Contains-append_right}
use Rattle.std.proofs.Math.Bool.{or-true, or-false}
use Rattle.settling.specs.Moved.{ListsChanges}
use Rattle.settling.proofs.NumbersLemmas.{shift}
use Rattle.switch_paths.specs.Switching.{state_at}
use Rattle.ternary.specs.declared.tern.Tern.{Tern}
use Rattle.ternary.specs.declared.tern.Tern.TheVariants.{Zero}
use Rattle.ternary.proofs.TernLemmas.{same_or_other}
use Rattle.wave_dump.specs.Entries.{ShownEntry, entries_of, shown_of, no_entry, listed_at, AreListed, ListsEntry, MarksNode, MarksAll, AreMarked}
use Rattle.wave_dump.specs.Scenes.{EntryData}
use Rattle.wave_dump.specs.Values.{value_in}

-- the value of nodes has the state of each
pub value_at : (states : List Tern) (nodes : List ℕ) (k : ℕ) → k < length nodes → state_at (map (state_at states) nodes) k ≡ state_at states (slice_index_or nodes k 0)
value_at states [] k inside = absurd (omega arith)
value_at states (node ∷ nodes) zero inside = refl
value_at states (node ∷ nodes) (suc k) inside = value_at states nodes k (omega arith)

-- the first places, so many, have the states of their nodes, and the others what they had; and whether one is another than before
pub record TakenFirst (nodes : List ℕ) (states old now : List Tern) (at : ℕ) (changed : Bool) : Type 0 where
  pub count : length now ≡ length old
  pub first : (k : ℕ) → k < at → state_at now k ≡ state_at states (slice_index_or nodes k 0)
  pub rest : (k : ℕ) → at ≤ k → state_at now k ≡ state_at old k
  pub same : changed ≡ false → now ≡ old
  pub differs : changed ≡ true → (k : ℕ) × (k < at) × (state_at now k ≢ state_at old k)

pub taken-none : (nodes : List ℕ) (states old : List Tern) → TakenFirst nodes states old old 0 false
taken-none nodes states old = record {
  count = refl;
  first = λ k below. absurd (omega (arith, below));
  rest = λ k above. refl;
  same = λ is. refl;
  differs = λ is. absurd (true≢false (sym is));
}

module _ (nodes : List ℕ) (states old now : List Tern) (at : ℕ) (changed : Bool) (inside : at < length old)
    (taken : TakenFirst nodes states old now at changed) (state : Tern) (is : state ≡ state_at states (slice_index_or nodes at 0)) where
  abbrev next : List Tern
  next = slice_set now at state

  here : state_at next at ≡ state
  here = get_or-set_same now at state Zero (omega (arith, inside, taken.count))

  others : (k : ℕ) → k ≢ at → state_at next k ≡ state_at now k
  others k other = get_or-set_other now at k state Zero other

  first_next : (k : ℕ) → k < at + 1 → state_at next k ≡ state_at states (slice_index_or nodes k 0)
  first_next k below = elim (cases_eq k at) [
    | inl same ↦ subst (λ k. state_at next k ≡ state_at states (slice_index_or nodes k 0)) (sym same) (here ∙ is)
    | inr other ↦ others k other ∙ taken.first k (omega (arith, below, other))
  ]

  rest_next : (k : ℕ) → at + 1 ≤ k → state_at next k ≡ state_at old k
  rest_next k above = others k (λ same. absurd (omega (arith, above, same))) ∙ taken.rest k (omega (arith, above))

  -- a state that is as it was
  pub taken-same : state ≡ state_at now at → TakenFirst nodes states old next (at + 1) changed
  taken-same kept =
      let all : next ≡ now = ap (λ state. slice_set now at state) kept ∙ set-get_or now at Zero in
      record {
        count = length-set now at state ∙ taken.count;
        first = first_next;
        rest = rest_next;
        same = λ is. all ∙ taken.same is;
        differs = λ is.
            let (k, below, other) = taken.differs is in
            (k, omega (arith, below), (λ same. other (ap (λ states. state_at states k) (sym all) ∙ same)));
      }

  -- and another one
  pub taken-other : state ≢ state_at now at → TakenFirst nodes states old next (at + 1) true
  taken-other other = record {
    count = length-set now at state ∙ taken.count;
    first = first_next;
    rest = rest_next;
    same = λ is. absurd (true≢false is);
    differs = λ is. (at, omega arith, (λ same. other (sym here ∙ (same ∙ sym (taken.rest at (omega arith))))));
  }

  pub taken-more : (mark : Bool) → OnTrue mark (state ≢ state_at now at) → OnFalse mark (state ≡ state_at now at) →
      TakenFirst nodes states old next (at + 1) (changed || mark)
  taken-more true other kept = subst (TakenFirst nodes states old next (at + 1)) (sym (or-true changed)) (taken-other other)
  taken-more false other kept = subst (TakenFirst nodes states old next (at + 1)) (sym (or-false changed)) (taken-same kept)

-- at the end all have
pub taken-all : (nodes : List ℕ) (states old now : List Tern) (changed : Bool) → length old ≡ length nodes →
    TakenFirst nodes states old now (length nodes) changed → now ≡ map (state_at states) nodes
taken-all nodes states old now changed count taken =
    ext_get_or Zero now (map (state_at states) nodes) (omega (arith, taken.count, count, length-map nodes (state_at states)))
    (λ k inside.
    let below : k < length nodes = omega (arith, inside, taken.count, count) in
    taken.first k below ∙ sym (value_at states nodes k below))

pub taken-changed : (nodes : List ℕ) (states old now : List Tern) (at : ℕ) (changed : Bool) →
    TakenFirst nodes states old now at changed → OnTrue changed (now ≢ old)
taken-changed nodes states old now at true taken =
    let (k, below, other) = taken.differs refl in (λ same. other (ap (λ states. state_at states k) same))
taken-changed nodes states old now at false taken = tt

pub taken-kept : (nodes : List ℕ) (states old now : List Tern) (at : ℕ) (changed : Bool) →
    TakenFirst nodes states old now at changed → OnFalse changed (now ≡ old)
taken-kept nodes states old now at true taken = tt
taken-kept nodes states old now at false taken = taken.same refl

-- the entry is listed at the first of these nodes, so many
pub record ListedFirst (nodes : List ℕ) (at number : ℕ) (old new : List (List ℕ)) : Type 0 where
  pub count : length new ≡ length old
  pub there : (k : ℕ) → k < at → Contains (listed_at new (slice_index_or nodes k 0)) number
  pub stays : (node other : ℕ) → Contains (listed_at old node) other → Contains (listed_at new node) other

pub listed-none : (nodes : List ℕ) (number : ℕ) (old : List (List ℕ)) → ListedFirst nodes 0 number old old
listed-none nodes number old = record { count = refl; there = λ k below. absurd (omega (arith, below)); stays = λ node other has. has }

module _ (nodes : List ℕ) (at number : ℕ) (old now : List (List ℕ)) (node : ℕ) (is : node ≡ slice_index_or nodes at 0) (inside : node < length old)
    (first : ListedFirst nodes at number old now) (before more : List ℕ) (was : before ≡ slice_index_or now node before)
    (pushed : more ≡ before ++ number ∷ []) where
  abbrev lists : List (List ℕ)
  lists = slice_set now node more

  there_before : before ≡ listed_at now node
  there_before = was ∙ get_or_default now node before [] (omega (arith, inside, first.count))

  here_more : listed_at lists node ≡ listed_at now node ++ number ∷ []
  here_more = get_or-set_same now node more [] (omega (arith, inside, first.count)) ∙ (pushed ∙ ap (λ list. list ++ number ∷ []) there_before)

  keeps : (place other : ℕ) → Contains (listed_at now place) other → Contains (listed_at lists place) other
  keeps place other has = elim (cases_eq place node) [
    | inl same ↦ subst (λ list. Contains list other) (sym (ap (listed_at lists) same ∙ here_more))
        (Contains-append_left (listed_at now node) (number ∷ []) other (subst (λ place. Contains (listed_at now place) other) same has))
    | inr differs ↦ subst (λ list. Contains list other) (sym (get_or-set_other now node place more [] differs)) has
  ]

  pub listed-more : ListedFirst nodes (at + 1) number old lists
  listed-more = record {
    count = length-set now node more ∙ first.count;
    there = λ k below. elim (cases_eq k at) [
      | inl same ↦ subst (λ place. Contains (listed_at lists place) number) (is ∙ ap (λ k. slice_index_or nodes k 0) (sym same))
          (subst (λ list. Contains list number) (sym here_more)
          (Contains-append_right (listed_at now node) (number ∷ []) number (0, omega arith, refl)))
      | inr other ↦ keeps (slice_index_or nodes k 0) number (first.there k (omega (arith, below, other)))
    ];
    stays = λ place other has. keeps place other (first.stays place other has);
  }

-- and at all of them
pub listed-all : (nodes : List ℕ) (at number : ℕ) (old new : List (List ℕ)) → length nodes ≤ at → ListedFirst nodes at number old new →
    ListsEntry nodes number old new
listed-all nodes at number old new end first = record {
  count = first.count;
  there = λ node has.
      let (k, inside, is) = has in
      subst (λ node. Contains (listed_at new node) number) (shift nodes k node inside ∙ is) (first.there k (omega (arith, inside, end)));
  stays = first.stays;
}

-- what is listed at a node is marked; nothing is, past the last one
pub marks_past : (lists : List (List ℕ)) (node : ℕ) (old : List ℕ) → length lists ≤ node → MarksNode lists node old old
marks_past lists node old past = record {
  there = λ number has.
      let (k, inside, is) = subst (λ list. Contains list number) (get_or_past lists node [] past) has in
      absurd (omega (arith, inside));
  stays = λ number has. has;
}

pub marks_listed : (lists : List (List ℕ)) (node : ℕ) (old new list : List ℕ) → node < length lists → list ≡ slice_index_or lists node list →
    new ≡ old ++ list → MarksNode lists node old new
marks_listed lists node old new list inside is grew =
    let here : list ≡ listed_at lists node = is ∙ get_or_default lists node list [] inside in
    record {
      there = λ number has. subst (λ all. Contains all number) (sym grew)
          (Contains-append_right old list number (subst (λ list. Contains list number) (sym here) has));
      stays = λ number has. subst (λ all. Contains all number) (sym grew) (Contains-append_left old list number has);
    }

-- the first entries, so many, are listed at their nodes
pub record ListedBelow (entries : List EntryData) (count at : ℕ) (lists : List (List ℕ)) : Type 0 where
  pub all : length lists ≡ count
  pub each : (number node : ℕ) → number < at → Contains (slice_index_or entries number no_entry).nodes node → Contains (listed_at lists node) number

pub below-none : (entries : List EntryData) (count : ℕ) (lists : List (List ℕ)) → length lists ≡ count → ListedBelow entries count 0 lists
below-none entries count lists all = record { all = all; each = λ number node below has. absurd (omega (arith, below)) }

pub below-more : (entries : List EntryData) (count at : ℕ) (old new : List (List ℕ)) (nodes : List ℕ) →
    nodes ≡ (slice_index_or entries at no_entry).nodes → ListsEntry nodes at old new → ListedBelow entries count at old → ListedBelow entries count (at + 1) new
below-more entries count at old new nodes is lists below = record {
  all = lists.count ∙ below.all;
  each = λ number node under has. elim (cases_eq number at) [
    | inl same ↦ subst (Contains (listed_at new node)) (sym same)
        (lists.there node (subst (λ nodes. Contains nodes node) (ap (λ number. (slice_index_or entries number no_entry).nodes) same ∙ sym is) has))
    | inr other ↦ lists.stays node number (below.each number node (omega (arith, under, other)) has)
  ];
}

pub below-all : (entries : List EntryData) (count at : ℕ) (lists : List (List ℕ)) → length entries ≤ at → ListedBelow entries count at lists →
    AreListed entries lists
below-all entries count at lists end below = λ number node inside has. below.each number node (omega (arith, inside, end)) has

-- a value that is another one has a node at which the states differ
differs_at : (old new : List Tern) (nodes : List ℕ) → map (state_at new) nodes ≢ map (state_at old) nodes →
    (node : ℕ) × Contains nodes node × (state_at new node ≢ state_at old node)
differs_at old new [] other = absurd (other refl)
differs_at old new (node ∷ nodes) other = elim (same_or_other (state_at new node) (state_at old node)) [
  | inr differs ↦ (node, (0, omega arith, refl), differs)
  | inl same ↦
      let (found, there, differs) = differs_at old new nodes (λ all. other (rw same (ap (λ value. state_at old node ∷ value) all))) in
      (found, (suc there.0, omega (arith, there.1), there.2), differs)
]

-- the entries that changed are marked, if all that is listed at changed nodes is
pub marked_changes : (held : List ShownEntry) (lists : List (List ℕ)) (nodes marked : List ℕ) (old new : List Tern) →
    AreListed (entries_of held) lists → length (entries_of held) ≡ length held →
    ((number : ℕ) → number < length held → slice_index_or (shown_of held) number [] ≡ value_in old (slice_index_or (entries_of held) number no_entry)) →
    ((number node : ℕ) → number < length held → Contains (slice_index_or (entries_of held) number no_entry).nodes node → node < length old) →
    ListsChanges nodes old new → MarksAll lists nodes marked → AreMarked held new marked
marked_changes held lists nodes marked old new listed count shown inside changes marks = λ number within other.
    let entry = slice_index_or (entries_of held) number no_entry in
    let (node, has, differs) = differs_at old new entry.nodes (λ same. other (same ∙ sym (shown number within))) in
    marks.there node number (changes.each node (inside number node within has) differs) (listed number node (omega (arith, within, count)) has)
