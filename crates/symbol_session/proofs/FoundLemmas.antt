-- Where a name stands among those that keep states: name by name, its number, the place of its rails, and how many nodes it has.
use Rattle.std.proofs.Common.{◌≡◌, ℕ, suc, ◌+◌, ◌-◌, ◌<◌, ◌≤◌, Bool, true, false, List, [], ◌∷◌, ◌++◌, length, map, refl, sym, ap, subst, ◌∙◌, arith, if◌then◌else◌}
use Rattle.std.specs.Prelude.{slice_set}
use Rattle.std.specs.List.{range_with_len}
use Rattle.std.proofs.lemmas.List.FromFn.{map-range_with_len_more}
use Rattle.switch_paths.specs.declared.TheConstants.{RAILS}
use Rattle.decision_graph.specs.declared.vertex.Function.{Function}
use Rattle.symbol_stage.specs.declared.given.Letters.{Letters}
use Rattle.symbol_session.specs.Sessions.{Save}
use Rattle.symbol_session.specs.Keeping.{before_save, is_kept, is_named, kept_by, letters_at, nodes_under, with_name}

-- ---- name by name

-- so many names were looked at, the functions of which end at a place, and these are left
pub record IsFoundBy (saves : List Save) (name : List ℕ) (k place : ℕ) (left : List Save) : Type 0 where
  pub there : is_kept saves name ≡ is_kept left name
  pub number : length (before_save saves name) ≡ k + length (before_save left name)
  pub stands : 1 + kept_by (before_save saves name) ≡ place + kept_by (before_save left name)
  pub nodes : nodes_under saves name ≡ nodes_under left name
  pub room : 1 + kept_by saves ≡ place + kept_by left

-- none were looked at
pub found_none : (saves : List Save) (name : List ℕ) → IsFoundBy saves name 0 1 saves
found_none saves name = record { there = refl; number = omega arith; stands = refl; nodes = refl; room = refl }

module _ (saves : List Save) (name : List ℕ) (k place : ℕ) (save : Save) (left rest : List Save) (heads : left ≡ save ∷ rest) (found : IsFoundBy saves name k place left) where
  is : IsFoundBy saves name k place (save ∷ rest)
  is = subst (IsFoundBy saves name k place) heads found

  -- another name is behind the one that isn't it
  pub found_then : is_named name save ≡ false → IsFoundBy saves name (k + 1) (place + (save.1 + save.1)) rest
  found_then other = by (is_named name save) other is.there is.number is.stands is.nodes
    where
      by : (test : Bool) → test ≡ false → is_kept saves name ≡ (if test then true else is_kept rest name) →
          length (before_save saves name) ≡ k + length (if test then [] else save ∷ before_save rest name) →
          1 + kept_by (before_save saves name) ≡ place + kept_by (if test then [] else save ∷ before_save rest name) →
          nodes_under saves name ≡ (if test then save.1 else nodes_under rest name) → IsFoundBy saves name (k + 1) (place + (save.1 + save.1)) rest
      by true never there number stands nodes = absurd (cc)
      by false other_name there number stands nodes = record {
        there = there;
        number = omega (arith, number);
        stands = omega (arith, stands);
        nodes = nodes;
        room = omega (arith, is.room);
      }

  -- it is this one
  pub found_here : is_named name save ≡ true → (is_kept saves name ≡ true) × (length (before_save saves name) ≡ k) ×
      (1 + kept_by (before_save saves name) ≡ place) × (nodes_under saves name ≡ save.1)
  found_here same = by (is_named name save) same is.there is.number is.stands is.nodes
    where
      by : (test : Bool) → test ≡ true → is_kept saves name ≡ (if test then true else is_kept rest name) →
          length (before_save saves name) ≡ k + length (if test then [] else save ∷ before_save rest name) →
          1 + kept_by (before_save saves name) ≡ place + kept_by (if test then [] else save ∷ before_save rest name) →
          nodes_under saves name ≡ (if test then save.1 else nodes_under rest name) →
          (is_kept saves name ≡ true) × (length (before_save saves name) ≡ k) × (1 + kept_by (before_save saves name) ≡ place) × (nodes_under saves name ≡ save.1)
      by true same there number stands nodes = (there, omega (arith, number), omega (arith, stands), nodes)
      by false never there number stands nodes = absurd (cc)

  -- its rails end where those of all end, or before
  pub found_room : place + (save.1 + save.1) ≤ 1 + kept_by saves
  found_room = omega (arith, is.room)

-- none is left, so it isn't there
pub found_nowhere : (saves : List Save) (name : List ℕ) (k place : ℕ) (left : List Save) → left ≡ [] → IsFoundBy saves name k place left →
    (is_kept saves name ≡ false) × (length (before_save saves name) ≡ k) × (1 + kept_by (before_save saves name) ≡ place) × (nodes_under saves name ≡ 0)
found_nowhere saves name k place [] none is = (is.there, omega (arith, is.number), omega (arith, is.stands), is.nodes)
found_nowhere saves name k place (save ∷ left) never is = absurd (cc)

-- ---- where it is put

-- what a name keeps ends where all ends, or before
pub kept_room : (saves : List Save) (name : List ℕ) → kept_by (before_save saves name) + (nodes_under saves name + nodes_under saves name) ≤ kept_by saves
kept_room [] name = omega arith
kept_room (save ∷ saves) name = by (is_named name save) (kept_room saves name)
  where
    by : (test : Bool) → kept_by (before_save saves name) + (nodes_under saves name + nodes_under saves name) ≤ kept_by saves →
        kept_by (if test then [] else save ∷ before_save saves name) +
        ((if test then save.1 else nodes_under saves name) + (if test then save.1 else nodes_under saves name)) ≤ save.1 + (save.1 + kept_by saves)
    by true later = omega arith
    by false later = omega (arith, later)

-- a name that is there has one of the places
pub kept_inside : (saves : List Save) (name : List ℕ) → is_kept saves name ≡ true → length (before_save saves name) < length saves
kept_inside [] name never = absurd (cc)
kept_inside (save ∷ saves) name is = by (is_named name save) is (kept_inside saves name)
  where
    by : (test : Bool) → (if test then true else is_kept saves name) ≡ true → (is_kept saves name ≡ true → length (before_save saves name) < length saves) →
        length (if test then [] else save ∷ before_save saves name) < suc (length saves)
    by true same later = omega arith
    by false there later = let inside = later there in omega (arith, inside)

-- there it is put
pub name_there : (saves : List Save) (name : List ℕ) (n : ℕ) → is_kept saves name ≡ true →
    slice_set saves (length (before_save saves name)) (name, n) ≡ with_name saves name n
name_there [] name n never = absurd (cc)
name_there (save ∷ saves) name n is = by (is_named name save) is (name_there saves name n)
  where
    by : (test : Bool) → (if test then true else is_kept saves name) ≡ true →
        (is_kept saves name ≡ true → slice_set saves (length (before_save saves name)) (name, n) ≡ with_name saves name n) →
        slice_set (save ∷ saves) (length (if test then [] else save ∷ before_save saves name)) (name, n)
        ≡ (if test then (name, n) ∷ saves else save ∷ with_name saves name n)
    by true same later = refl
    by false there later = ap (λ (list : List Save). save ∷ list) (later there)

-- or else behind the others
pub name_behind : (saves : List Save) (name : List ℕ) (n : ℕ) → is_kept saves name ≡ false → saves ++ (name, n) ∷ [] ≡ with_name saves name n
name_behind [] name n is = refl
name_behind (save ∷ saves) name n is = by (is_named name save) is (name_behind saves name n)
  where
    by : (test : Bool) → (if test then true else is_kept saves name) ≡ false →
        (is_kept saves name ≡ false → saves ++ (name, n) ∷ [] ≡ with_name saves name n) →
        save ∷ (saves ++ (name, n) ∷ []) ≡ (if test then (name, n) ∷ saves else save ∷ with_name saves name n)
    by true never later = absurd (cc)
    by false none later = ap (λ (list : List Save). save ∷ list) (later none)

-- ---- the letters of what is kept, node by node

-- those of the nodes before one
abbrev pub letters_before : List Function → ℕ → ℕ → ℕ → List (ℕ × Letters)
letters_before kept place n node = map (λ one. (one, letters_at kept place n one)) (range_with_len RAILS (node - RAILS))

pub letters_more : (kept : List Function) (place n node : ℕ) (now after : List (ℕ × Letters)) (letters : Letters) → RAILS ≤ node →
    now ≡ letters_before kept place n node → after ≡ now ++ (node, letters) ∷ [] → letters ≡ letters_at kept place n node →
    after ≡ letters_before kept place n (node + 1)
letters_more kept place n node now after letters past so_far pushed is =
    let pair : ℕ → ℕ × Letters = λ (one : ℕ). (one, letters_at kept place n one) in
    let next : (node + 1) - RAILS ≡ (node - RAILS) + 1 = omega (arith, past) in
    pushed ∙ ap (λ (items : List (ℕ × Letters)). items ++ (node, letters) ∷ []) so_far
    ∙ ap (λ (own : Letters). letters_before kept place n node ++ (node, own) ∷ []) is
    ∙ sym (map-range_with_len_more pair RAILS (node - RAILS) node (omega (arith, past)))
    ∙ ap (λ (count : ℕ). map pair (range_with_len RAILS count)) (sym next)
