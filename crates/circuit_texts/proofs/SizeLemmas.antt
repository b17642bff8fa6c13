-- Which groups are refused, and the first of them, whose fault tells of a node of the graph.
use Rattle.std.proofs.Common.{◌≡◌, ◌≢◌, ℕ, zero, suc, ◌<◌, ◌≤◌, ◌⊎◌, inl, inr, Bool, true, false, if◌then◌else◌, nat_le, List, length, take, get_or, All, Some, None, refl, sym, ap, subst, ◌∙◌, arith, le-leb}
use Rattle.std.proofs.lemmas.Bool.{cases_lt, lt-leb}
use Rattle.std.proofs.lemmas.List.{get_or-take, length-take-le}
use Rattle.std.proofs.lemmas.Option.{slice_get_read, slice_get_within, get_or_from_slice_get}
use Rattle.std.proofs.lemmas.List.Elements.{All-contains_itself}
use Rattle.switch_paths.specs.Graphs.{GraphData, IsStorage, nodes}
use Rattle.group_meaning.specs.Groups.{Group, IsGroup, id_of}
use Rattle.group_meaning.proofs.GroupLemmas.{member_storage}
use Rattle.group_text.specs.declared.text.TextFault.{TextFault}
use Rattle.group_text.specs.declared.text.TextFault.TheVariants as text
use Rattle.circuit_texts.specs.declared.texts.BuildFault.{BuildFault}
use Rattle.circuit_texts.specs.declared.texts.BuildFault.TheVariants.{GroupNodes, GroupSwitches, NoMemory}
use Rattle.circuit_texts.specs.Sizes.{fault_in, refused_in, at_node, IsTooLarge, IsRefused, IsFirstRefused, TellsRefused}

-- a group that no text was made of is too large, or there was lack of memory
pub refused : (group : Group) (cause : TextFault) → (cause ≡ text.NoMemory) ⊎ (fault_in group ≡ Some cause) →
    (at_node (id_of group) cause ≡ NoMemory) ⊎ IsTooLarge group (at_node (id_of group) cause)
refused group cause (inl want) = inl (ap (at_node (id_of group)) want)
refused group cause (inr too_large) = inr (record { cause = cause; too_large = too_large; named = refl })

-- and if no group before it is refused, it is the first that is refused
pub first_refused : (large : ℕ) (groups : List Group) (k : ℕ) (group : Group) (fault : BuildFault) → k < length groups → group ≡ get_or groups k group →
    All (λ group. refused_in large group ≡ None) (take k groups) → (fault ≡ NoMemory) ⊎ IsRefused large group fault →
    (fault ≡ NoMemory) ⊎ IsFirstRefused large groups fault
first_refused large groups k group fault inside stands fits (inl want) = inl want
first_refused large groups k group fault inside stands fits (inr told) =
    inr (record {
      k = k;
      group = group;
      stands = slice_get_read groups (length groups) k group refl inside stands;
      cause = told.cause;
      too_large = told.too_large;
      named = told.named;
      before = λ j other before there.
          let inside_too : length (take k groups) ≡ k = length-take-le k groups (omega arith) in
          let here = fits j other (omega arith) in
          rw (get_or-take k groups j other before, get_or_from_slice_get groups j other other there) at here;
    })

-- if all groups fit none is the first that is too large
pub none_too_large : (groups : List Group) (fault : BuildFault) → All (λ group. fault_in group ≡ None) groups → ¬ IsFirstRefused 0 groups fault
none_too_large groups fault fits first =
    let fit = subst (λ group. fault_in group ≡ None) (get_or_from_slice_get groups first.k first.group first.group first.stands)
    (fits first.k first.group (slice_get_within groups first.k first.group first.stands)) in
    let both : None ≡ Some first.cause = sym fit ∙ first.too_large in
    absurd cc

-- a group that has a text is refused with no bound
pub fits_any : (large : ℕ) (group : Group) → fault_in group ≡ None → refused_in large group ≡ None
fits_any zero group fits = fits
fits_any (suc more) group fits = by (nat_le (length group.members) (suc more))
  where
    by : (few : Bool) → (if few then None else fault_in group) ≡ None
    by true = refl
    by false = fits

-- nor is one that has no more members than the bound
pub few_any : (large : ℕ) (group : Group) → large ≢ 0 → length group.members ≤ large → refused_in large group ≡ None
few_any zero group some few = absurd (some refl)
few_any (suc more) group some few = ap (λ b. if b then None else fault_in group) (le-leb (length group.members) (suc more) few)

-- and one that has more is refused if it has no text
pub many_refused : (large : ℕ) (group : Group) (cause : TextFault) → (large ≡ 0) ⊎ (large < length group.members) → fault_in group ≡ Some cause →
    refused_in large group ≡ Some cause
many_refused zero group cause many told = told
many_refused (suc more) group cause (inl none) told = absurd cc
many_refused (suc more) group cause (inr many) told =
    ap (λ b. if b then None else fault_in group) (lt-leb (length group.members) (suc more) many) ∙ told

-- a group that isn't refused has a text, or no more members than the bound
pub few_members : (large : ℕ) (group : Group) → refused_in large group ≡ None → fault_in group ≢ None → length group.members ≤ large
few_members zero group none untold = absurd (untold none)
few_members (suc more) group none untold =
    elim (cases_lt (suc more) (length group.members)) [
      | inr few ↦ few
      | inl many ↦ absurd (untold (sym (ap (λ b. if b then None else fault_in group) (lt-leb (length group.members) (suc more) many)) ∙ none))
    ]

-- what is told of a group that is refused is why it has no text
pub refused_fault : (large : ℕ) (group : Group) (cause : TextFault) → refused_in large group ≡ Some cause → fault_in group ≡ Some cause
refused_fault zero group cause is = is
refused_fault (suc more) group cause is = by (nat_le (length group.members) (suc more)) is
  where
    by : (few : Bool) → (if few then None else fault_in group) ≡ Some cause → fault_in group ≡ Some cause
    by true none = absurd (cc)
    by false is = is

-- the node that a too large group's fault tells of is the group's least one
node_is : (node id count : ℕ) (cause : TextFault) (fault : BuildFault) → fault ≡ at_node id cause →
    (fault ≡ GroupNodes node count) ⊎ (fault ≡ GroupSwitches node count) → node ≡ id
node_is node id count (text.GroupNodes m) fault named (inl is) = cc
node_is node id count (text.GroupNodes m) fault named (inr is) = absurd (cc)
node_is node id count (text.GroupSwitches m) fault named (inl is) = absurd (cc)
node_is node id count (text.GroupSwitches m) fault named (inr is) = cc
node_is node id count text.NoMemory fault named (inl is) = absurd (cc)
node_is node id count text.NoMemory fault named (inr is) = absurd (cc)

-- so it is a node of the graph
pub told_node : (large : ℕ) (g : GraphData) (fault : BuildFault) (node count : ℕ) → TellsRefused large g fault →
    (fault ≡ GroupNodes node count) ⊎ (fault ≡ GroupSwitches node count) → node < nodes g
told_node large g fault node count told is =
    let first = told.first in
    let group = first.group in
    let inside = slice_get_within told.groups first.k group first.stands in
    let is_group : IsGroup g group =
    subst (IsGroup g) (get_or_from_slice_get told.groups first.k group group first.stands) (told.are.each first.k group inside) in
    let storage : IsStorage g (id_of group) =
    member_storage g group is_group (id_of group) (All-contains_itself group.members 0 0 is_group.some) in
    subst (λ n. n < nodes g) (sym (node_is node (id_of group) count first.cause fault first.named is)) storage.inside
