-- Lists of parts for nodes: how they grow, and which parts are marked by them.
use Rattle.std.proofs.Common.{◌≡◌, ◌≢◌, ℕ, ◌+◌, ◌<◌, ◌≤◌, ◌⊎◌, Bool, true, false, inl, inr, List, [], ◌∷◌, ◌++◌, length, map, take, get_or, All, Vec, Global, sym, ap, subst, ◌∙◌, arith}
use Rattle.std.specs.Prelude.{Contains, slice_index_or, slice_set}
use Rattle.std.proofs.lemmas.Bool.{cases_eq, cases_lt}
use Rattle.std.proofs.lemmas.List.{get_or-map, get_or-set_same, get_or-set_other, get_or_past, get_or_default, length-set, length-map, map-set, take_more}
use Rattle.std.proofs.lemmas.List.Elements.{Contains-push, Contains-push_cases, Contains-append_left, Contains-get_or}
use Rattle.machine_parts.specs.declared.part.MachinePart.{MachinePart}
use Rattle.machine_parts.specs.Parts.{Stands, ReadsAt}
use Rattle.machine_parts.specs.Marking.{MarksAll}
use Rattle.machine_parts.specs.Stepping.{Concerns}
use Rattle.machine_parts.specs.Evaluating.{Rooms, IsSeated}
use Rattle.machine_parts.proofs.PartLemmas.{same_part}
use Rattle.machine_parts.proofs.MakingLemmas.{member_at_front, front_of_member}
use Rattle.part_steps.proofs.TakingLemmas.{Contains-from_take}
use Rattle.part_lists.specs.Listing.{listed_at, nodes_of, IsAmong, AreLists, Lists, AreListed}

-- the list of a node that is read by its index
pub list_read : (lists : List (Vec ℕ Global)) (node : ℕ) (found : Vec ℕ Global) → node < length lists → found ≡ get_or lists node found →
    found.items ≡ listed_at lists node
list_read lists node found inside is =
    ap (λ (parts : Vec ℕ Global). parts.items) is ∙ sym (get_or-map (λ (parts : Vec ℕ Global). parts.items) lists node found [] inside)

abbrev pub items_of : Vec ℕ Global → List ℕ
items_of parts = parts.items

-- the list of a node that is replaced, and those of the others
listed_at-set_same : (lists : List (Vec ℕ Global)) (node : ℕ) (parts : Vec ℕ Global) → node < length lists →
    listed_at (slice_set lists node parts) node ≡ parts.items
listed_at-set_same lists node parts inside =
    let within : node < length (map items_of lists) = omega (arith, inside, length-map lists items_of) in
    ap (λ all. slice_index_or all node []) (map-set items_of lists node parts) ∙ get_or-set_same (map items_of lists) node parts.items [] within

listed_at-set_other : (lists : List (Vec ℕ Global)) (node other : ℕ) (parts : Vec ℕ Global) → other ≢ node →
    listed_at (slice_set lists node parts) other ≡ listed_at lists other
listed_at-set_other lists node other parts differs =
    ap (λ all. slice_index_or all other []) (map-set items_of lists node parts)
    ∙ get_or-set_other (map items_of lists) node other parts.items [] differs

-- a node for which a part is listed is there
pub listed_inside : (lists : List (Vec ℕ Global)) (node k : ℕ) → Contains (listed_at lists node) k → node < length lists
listed_inside lists node k there =
    elim (cases_lt node (length lists)) [
      | inl inside ↦ inside
      | inr past ↦
          let none : listed_at lists node ≡ [] = get_or_past (map items_of lists) node [] (omega (arith, past, length-map lists items_of)) in
          let (i, inside, here) = subst (λ xs. Contains xs k) none there in
          absurd (omega (arith, inside))
    ]

module _ (k : ℕ) (nodes : List ℕ) (i node : ℕ) (old mid : List (Vec ℕ Global)) (before after : Vec ℕ Global) (i_inside : i < length nodes)
    (is : node ≡ get_or nodes i 0) (inside : node < length mid) (was : before ≡ get_or mid node before)
    (pushed : after.items ≡ before.items ++ k ∷ []) (so_far : Lists k (take i nodes) old mid) where
  -- at the node the part comes behind those that were there
  here : listed_at (slice_set mid node after) node ≡ listed_at mid node ++ k ∷ []
  here = listed_at-set_same mid node after inside ∙ (pushed ∙ ap (λ xs. xs ++ k ∷ []) (list_read mid node before inside was))

  grown : (other l : ℕ) → Contains (listed_at mid other) l → Contains (listed_at (slice_set mid node after) other) l
  grown other l there =
      elim (cases_eq other node) [
        | inl same ↦
            let at_node : Contains (listed_at mid node) l = subst (λ n. Contains (listed_at mid n) l) same there in
            subst (λ n. Contains (listed_at (slice_set mid node after) n) l) (sym same)
            (subst (λ xs. Contains xs l) (sym here) (Contains-append_left (listed_at mid node) (k ∷ []) l at_node))
        | inr differs ↦ subst (λ xs. Contains xs l) (sym (listed_at-set_other mid node other after differs)) there
      ]

  older : (other l : ℕ) → Contains (listed_at mid other) l → Contains (listed_at old other) l ⊎ (Contains (take i nodes ++ node ∷ []) other × (l ≡ k))
  older other l there =
      elim (so_far.only other l there) [
        | inl before_it ↦ inl before_it
        | inr (among, is_k) ↦ inr (Contains-append_left (take i nodes) (node ∷ []) other among, is_k)
      ]

  -- the part is listed at one node more
  pub Lists-more : Lists k (take (i + 1) nodes) old (slice_set mid node after)
  Lists-more =
      let more : take (i + 1) nodes ≡ take i nodes ++ node ∷ [] = take_more nodes i 0 i_inside ∙ ap (λ n. take i nodes ++ n ∷ []) (sym is) in
      subst (λ xs. Lists k xs old (slice_set mid node after)) (sym more) (record {
        count = length-set mid node after ∙ so_far.count;
        stays = λ other l there. grown other l (so_far.stays other l there);
        listed = λ other there.
            elim (Contains-push_cases (take i nodes) node other there) [
              | inl before_it ↦ grown other k (so_far.listed other before_it)
              | inr same ↦
                  subst (λ n. Contains (listed_at (slice_set mid node after) n) k) same
                  (subst (λ xs. Contains xs k) (sym here) (Contains-push (listed_at mid node) k))
            ];
        only = λ other l there.
            elim (cases_eq other node) [
              | inl same ↦
                  let listed : Contains (listed_at mid node ++ k ∷ []) l =
                  subst (λ xs. Contains xs l) here (subst (λ n. Contains (listed_at (slice_set mid node after) n) l) same there) in
                  elim (Contains-push_cases (listed_at mid node) k l listed) [
                    | inl before_it ↦ older other l (subst (λ n. Contains (listed_at mid n) l) (sym same) before_it)
                    | inr is_it ↦ inr (
                      subst (Contains (take i nodes ++ node ∷ [])) (sym same) (Contains-push (take i nodes) node),
                      sym is_it,
                    )
                  ]
              | inr differs ↦ older other l (subst (λ xs. Contains xs l) (listed_at-set_other mid node other after differs) there)
            ];
      })

-- one part more is listed
pub AreListed-more : (members : Bool) (parts : List MachinePart) (i : ℕ) (part : MachinePart) → Stands parts i part → (count : ℕ) (lists new : List (Vec ℕ Global)) →
    Lists i (nodes_of members part) lists new → AreListed members parts count i lists → AreListed members parts count (i + 1) new
AreListed-more members parts i part stands count lists new lists_it so_far = record {
  counted = lists_it.count ∙ so_far.counted;
  listed = λ node k below among.
      elim (cases_eq k i) [
        | inl same ↦
            let one = same_part parts i part among.part stands (subst (λ n. Stands parts n among.part) same among.stands) in
            let contained = subst (λ (p : MachinePart). Contains (nodes_of members p) node) (sym one) among.among in
            subst (Contains (listed_at new node)) (sym same) (lists_it.listed node contained)
        | inr differs ↦ lists_it.stays node k (so_far.listed node k (omega (arith, below, differs)) among)
      ];
  only = λ node k there.
      elim (lists_it.only node k there) [
        | inl before ↦ so_far.only node k before
        | inr (among, same) ↦ record { part = part; stands = subst (λ n. Stands parts n part) (sym same) stands; among = among }
      ];
}

-- ---- the nodes of seated parts

-- the nodes of the parts are there
pub nodes_inside : (members : Bool) (count : ℕ) (parts : List MachinePart) → ((room : Rooms) × All (IsSeated count room) parts) →
    ((k node : ℕ) → ReadsAt parts k node → node < count) → All (λ part. All (λ node. node < count) (nodes_of members part)) parts
nodes_inside true count parts (room, seated) reads k d inside i e within =
    let part = slice_index_or parts k d in
    let there = Contains-from_take part.members part.map.items _ (Contains-get_or (take part.members part.map.items) i e within) in
    let (place, in_map, here) = there in
    subst (λ n. n < count) here ((seated k d inside).below place _ in_map)
nodes_inside false count parts seated reads k d inside i e within =
    let part = slice_index_or parts k d in
    let stands : Stands parts k part = record { inside = inside; here = get_or_default parts k part d inside } in
    reads k _ (record { part = part; stands = stands; reads = Contains-get_or part.reads.items i e within })

pub members_front : (count : ℕ) (parts : List MachinePart) → ((room : Rooms) × All (IsSeated count room) parts) → All (λ part. part.members ≤ length part.map.items) parts
members_front count parts (room, seated) k d inside = (seated k d inside).members

-- ---- marks by lists

-- a part that is listed for a node is one of the parts
pub listed_part : (members : Bool) (parts : List MachinePart) (count : ℕ) (lists : List (Vec ℕ Global)) → AreLists members parts count lists → (node : ℕ) (list : List ℕ) →
    list ≡ listed_at lists node → (k : ℕ) → Contains list k → k < length parts
listed_part members parts count lists are node list is k there = (are.only node k (subst (λ xs. Contains xs k) is there)).stands.inside

-- the parts that have a node as a member, or read it, are marked, and no others
pub MarksAll-concerned : (parts : List MachinePart) (count : ℕ) (readers owners : List (Vec ℕ Global)) (node : ℕ) (old mid new : List Bool) →
    All (λ part. part.members ≤ length part.map.items) parts → AreLists true parts count owners → AreLists false parts count readers → (first second : List ℕ) →
    first ≡ listed_at owners node → second ≡ listed_at readers node → MarksAll (Contains first) old mid → MarksAll (Contains second) mid new →
    MarksAll (λ k. Concerns parts k node) old new
MarksAll-concerned parts count readers owners node old mid new front own read first second first_is second_is one two = record {
  count = two.count ∙ one.count;
  stays = λ k was. two.stays k (one.stays k was);
  set = λ k concerned.
      elim concerned [
        | inl has ↦
            let few = subst (λ (p : MachinePart). p.members ≤ length p.map.items) has.stands.here (front k has.part has.stands.inside) in
            let among : IsAmong true parts k node =
            record { part = has.part; stands = has.stands; among = front_of_member parts k has.part has.stands few node has } in
            two.stays k (one.set k (subst (λ xs. Contains xs k) (sym first_is) (own.listed node k among)))
        | inr reads ↦
            let among : IsAmong false parts k node = record { part = reads.part; stands = reads.stands; among = reads.reads } in
            two.set k (subst (λ xs. Contains xs k) (sym second_is) (read.listed node k among))
      ];
  only = λ k marked.
      elim (two.only k marked) [
        | inl before ↦
            elim (one.only k before) [
              | inl was ↦ inl was
              | inr there ↦
                  let among = own.only node k (subst (λ xs. Contains xs k) first_is there) in
                  let few = subst (λ (p : MachinePart). p.members ≤ length p.map.items) among.stands.here (front k among.part among.stands.inside) in
                  inr (inl (member_at_front parts k among.part among.stands few node among.among))
            ]
        | inr there ↦
            let among = read.only node k (subst (λ xs. Contains xs k) second_is there) in
            inr (inr (record { part = among.part; stands = among.stands; reads = among.among }))
      ];
}
