-- Groups that are chosen by their ids: one id more is one group more.
use Rattle.std.proofs.Common.{◌≡◌, ℕ, zero, suc, ◌+◌, ◌<◌, ◌≤◌, Bool, true, false, cond, eqb, List, [], ◌∷◌, ◌++◌, length, take, drop, map, get_or, All, ◌⊎◌, Option, Some, None, refl, sym, ap, ap₂, subst, ◌∙◌, arith}
use Rattle.std.specs.Prelude.{is_some}
use Rattle.std.specs.List.{filter_map}
use Rattle.std.specs.List.Sorted.{IsStrictlyIncreasing}
use Rattle.std.proofs.lemmas.List.{take_more, take_all, take-append-drop, map-append, length-map}
use Rattle.std.proofs.lemmas.Bool.Decides.{Decides-eqb}
use Rattle.std.proofs.lemmas.List.Elements.{All-head, All-tail, filter_map-append}
use Rattle.group_meaning.specs.Groups.{Group, id_of}
use Rattle.channel_groups.specs.declared.group.GroupId.{GroupId}
use Rattle.channel_groups.specs.Grouping.{group_with, IsId}
use Rattle.channel_groups.proofs.HeldLemmas.{group_of_id}
use Rattle.circuit_texts.specs.declared.texts.BuildFault.{BuildFault}
use Rattle.circuit_texts.specs.declared.texts.BuildFault.TheVariants.{NoMemory}
use Rattle.circuit_texts.specs.Sizes.{refused_in, IsRefused, IsFirstRefused}
use Rattle.circuit_texts.specs.Choosing.{chosen}
use Rattle.circuit_texts.proofs.SizeLemmas.{first_refused}

-- the group of an id stands behind those of the ids before it
pub chosen-more : (groups : List Group) (ids : List GroupId) (i : ℕ) (d : GroupId) (group : Group) → i < length ids →
    group_with groups (get_or ids i d).node ≡ Some group → chosen groups (take (i + 1) ids) ≡ chosen groups (take i ids) ++ group ∷ []
chosen-more groups ids i d group inside found =
    let h : GroupId → Option Group = λ id. group_with groups id.node in
    ap (filter_map h) (take_more ids i d inside)
    ∙ (filter_map-append h (take i ids) (get_or ids i d ∷ []) ∙ ap (λ last. chosen groups (take i ids) ++ last) (one (group_with groups (get_or ids i d).node) found))
  where
    one : (slot : Option Group) → slot ≡ Some group → filter_map (λ slot. slot) (slot ∷ []) ≡ group ∷ []
    one slot is = ap (λ s. filter_map (λ slot. slot) (s ∷ [])) is

-- what is made of each of the groups so far, and of one more
pub mapped_chosen : {Z : Type 0} (h : Group → Z) (front all : List Group) (zs : List Z) (z : Z) (group : Group) → all ≡ front ++ group ∷ [] →
    zs ≡ map h front → z ≡ h group → zs ++ z ∷ [] ≡ map h all
mapped_chosen h front all zs z group grown so_far here =
    ap (λ list. list ++ z ∷ []) so_far ∙ (ap (λ last. map h front ++ last ∷ []) here ∙ (sym (map-append h front (group ∷ [])) ∙ ap (map h) (sym grown)))

pub map_chosen : {X Z : Type 0} (f : X → Z) (h : Group → Z) (front all : List Group) (xs : List X) (x : X) (group : Group) →
    all ≡ front ++ group ∷ [] → map f xs ≡ map h front → f x ≡ h group → map f (xs ++ x ∷ []) ≡ map h all
map_chosen f h front all xs x group grown so_far here =
    map-append f xs (x ∷ []) ∙ mapped_chosen h front all (map f xs) (f x) group grown so_far here

-- all chosen groups, if one is chosen at a place
chosen-split : (groups : List Group) (ids : List GroupId) (i : ℕ) (d : GroupId) (group : Group) → i < length ids →
    group_with groups (get_or ids i d).node ≡ Some group →
    chosen groups ids ≡ (chosen groups (take i ids) ++ group ∷ []) ++ chosen groups (drop (i + 1) ids)
chosen-split groups ids i d group inside found =
    let h : GroupId → Option Group = λ id. group_with groups id.node in
    ap (filter_map h) (sym (take-append-drop (i + 1) ids))
    ∙ (filter_map-append h (take (i + 1) ids) (drop (i + 1) ids) ∙ ap (λ front. front ++ chosen groups (drop (i + 1) ids)) (chosen-more groups ids i d group inside found))

at_seam : (front rest : List Group) (group d : Group) → get_or ((front ++ group ∷ []) ++ rest) (length front) d ≡ group
at_seam [] rest group d = refl
at_seam (first ∷ front) rest group d = at_seam front rest group d

before_seam : (front rest : List Group) (group : Group) → take (length front) ((front ++ group ∷ []) ++ rest) ≡ front
before_seam [] rest group = refl
before_seam (first ∷ front) rest group = ap (λ list. first ∷ list) (before_seam front rest group)

seam_inside : (front rest : List Group) (group : Group) → length front < length ((front ++ group ∷ []) ++ rest)
seam_inside [] rest group = omega arith
seam_inside (first ∷ front) rest group = omega (arith, seam_inside front rest group)

-- a group that is refused, if no group before it is, is the first that is refused, or there was lack of memory
split_refused : (large : ℕ) (all front rest : List Group) (group : Group) (fault : BuildFault) → all ≡ (front ++ group ∷ []) ++ rest →
    All (λ one. refused_in large one ≡ None) front → (fault ≡ NoMemory) ⊎ IsRefused large group fault →
    (fault ≡ NoMemory) ⊎ IsFirstRefused large all fault
split_refused large all front rest group fault all_are fits told =
    let list = (front ++ group ∷ []) ++ rest in
    let fit : All (λ one. refused_in large one ≡ None) (take (length front) list) =
    subst (All (λ one. refused_in large one ≡ None)) (sym (before_seam front rest group)) fits in
    subst (λ (groups : List Group). (fault ≡ NoMemory) ⊎ IsFirstRefused large groups fault) (sym all_are)
    (first_refused large list (length front) group fault (seam_inside front rest group) (sym (at_seam front rest group group)) fit told)

-- and so it is if it is the group of an id, and no group of the ids before it is refused
pub refused_at : (large : ℕ) (groups : List Group) (ids : List GroupId) (i : ℕ) (d : GroupId) (group : Group) (fault : BuildFault) → i < length ids →
    group_with groups (get_or ids i d).node ≡ Some group → All (λ one. refused_in large one ≡ None) (chosen groups (take i ids)) →
    (fault ≡ NoMemory) ⊎ IsRefused large group fault → (fault ≡ NoMemory) ⊎ IsFirstRefused large (chosen groups ids) fault
refused_at large groups ids i d group fault inside found =
    split_refused large (chosen groups ids) (chosen groups (take i ids)) (chosen groups (drop (i + 1) ids)) group fault (chosen-split groups ids i d group inside found)

-- the groups of the first of all ids are the first groups
chosen_front : (groups : List Group) → IsStrictlyIncreasing (map id_of groups) → (ids : List GroupId) → map (λ (id : GroupId). id.node) ids ≡ map id_of groups →
    All (λ (id : GroupId). IsId groups id.node) ids → (k : ℕ) → k ≤ length ids → chosen groups (take k ids) ≡ take k groups
chosen_front groups ascending ids same each zero within = refl
chosen_front groups ascending ids same each (suc k) within =
    let d : GroupId = record { node = 0 } in
    let inside : k < length ids = omega (arith, within) in
    let next : suc k ≡ k + 1 = omega arith in
    rw next (one (chosen_front groups ascending ids same each k (omega (arith, within))) (group_with groups (get_or ids k d).node) refl (each k d inside))
  where
    one : chosen groups (take k ids) ≡ take k groups → (slot : Option Group) → group_with groups (get_or ids k (record { node = 0 })).node ≡ slot →
        is_some slot ≡ true → chosen groups (take (k + 1) ids) ≡ take (k + 1) groups
    one so_far None is some = absurd cc
    one so_far (Some group) is some =
        let d : GroupId = record { node = 0 } in
        let inside : k < length ids = omega (arith, within) in
        let at = group_of_id groups ascending ids same k d inside group is in
        chosen-more groups ids k d group inside is
        ∙ (ap (λ front. front ++ group ∷ []) so_far ∙ sym (take_more groups k group at.0 ∙ ap (λ last. take k groups ++ last ∷ []) at.1))

-- and those of all ids are all groups
pub chosen-all : (groups : List Group) → IsStrictlyIncreasing (map id_of groups) → (ids read : List GroupId) → read ≡ ids →
    map (λ (id : GroupId). id.node) ids ≡ map id_of groups → All (λ (id : GroupId). IsId groups id.node) ids → chosen groups read ≡ groups
chosen-all groups ascending ids read is same each =
    let counted : length ids ≡ length groups = omega (arith, ap length same, length-map ids (λ (id : GroupId). id.node), length-map groups id_of) in
    ap (chosen groups) (is ∙ sym (take_all (length ids) ids (omega arith)))
    ∙ (chosen_front groups ascending ids same each (length ids) (omega arith) ∙ take_all (length ids) groups (omega (arith, counted)))

-- a group that is found by an id has it
own_id : (all : List Group) (node : ℕ) (group : Group) → group_with all node ≡ Some group → id_of group ≡ node
own_id [] node group is = absurd cc
own_id (first ∷ all) node group is = at (own_id all node group) (eqb (id_of first) node) refl is
  where
    at : (group_with all node ≡ Some group → id_of group ≡ node) → (same : Bool) → eqb (id_of first) node ≡ same →
        cond same (Some first) (group_with all node) ≡ Some group → id_of group ≡ node
    at later true same is = let one : first ≡ group = cc in ap id_of (sym one) ∙ (Decides-eqb (id_of first) node).0 same
    at later false same is = later is

-- the ids of the groups with some ids are these
pub chosen-ids : (groups : List Group) (ids : List GroupId) → All (λ (id : GroupId). IsId groups id.node) ids →
    map id_of (chosen groups ids) ≡ map (λ (id : GroupId). id.node) ids
chosen-ids groups [] each = refl
chosen-ids groups (id ∷ ids) each =
    let Is : GroupId → Type 0 = λ one. IsId groups one.node in
    by (group_with groups id.node) refl (All-head Is id ids each) (chosen-ids groups ids (All-tail Is id ids each))
  where
    by : (slot : Option Group) → group_with groups id.node ≡ slot → is_some (group_with groups id.node) ≡ true →
        map id_of (chosen groups ids) ≡ map (λ (one : GroupId). one.node) ids →
        map id_of (chosen groups (id ∷ ids)) ≡ id.node ∷ map (λ (one : GroupId). one.node) ids
    by None is some rest = absurd cc
    by (Some group) is some rest = rw is (ap₂ (λ node nodes. node ∷ nodes) (own_id groups id.node group is) rest)
