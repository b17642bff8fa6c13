-- The lists of readers, while parts enter them and leave them. One list is replaced at a time: what holds of it, and of all others, holds
-- of all lists.
use Rattle.std.proofs.Common.{◌≡◌, ℕ, ◌+◌, ◌-◌, ◌<◌, ◌≤◌, false, inl, inr, ◌⊎◌, List, [], ◌∷◌, ◌++◌, length, take, drop, get_or, nat_eq, All, Some, Result, Ok, Err, refl, sym, ap, subst, ◌∙◌, arith}
use Rattle.std.specs.Prelude.{Contains, slice_set, slice_get, slice_index, OnErr}
use Rattle.std.specs.List.{IsDistinct, list_any}
use Rattle.std.specs.Result.{is_ok}
use Rattle.std.proofs.lemmas.Bool.{cases_eq, cases_lt, cases_Bool, eqb-true}
use Rattle.std.proofs.lemmas.Cmp.{nat_eq_equiv}
use Rattle.std.proofs.lemmas.List.{length-set, take_more, take_all, take-append-drop, get_or_default, get_or_push, length_push}
use Rattle.std.proofs.lemmas.List.Elements.{Contains-push, Contains-push_cases, Contains-append_left}
use Rattle.std.proofs.lemmas.Map.Keys.{IsDistinct-push}
use Rattle.std.proofs.lemmas.Map.Views.{Contains-from_any}
use Rattle.std.proofs.lemmas.Option.{slice_get_within, slice_get-get_or, get_or_from_slice_get}
use Rattle.smallvec.specs.SmallVec.{SmallVec}
use Rattle.list_facts.specs.Taking.{TakesOut}
use Rattle.machine_parts.specs.declared.part.MachinePart.{MachinePart}
use Rattle.machine_parts.specs.Marking.{AreOnce}
use Rattle.machine_parts.specs.Parts.{Stands}
use Rattle.machine_parts.specs.Readers.{readers_of, AreEachOnce, IsLastIf, Adds, Lists, ListsLast, ListsSome, Unlists, ReadsAs, HaveSameReaders, AreListedTo, AreOffTo, AreListed}
use Rattle.machine_parts.proofs.PartLemmas.{same_part}
use Rattle.machine_parts.proofs.MakingLemmas.{readers_of-set_same, readers_of-set_other}
use Rattle.part_steps.proofs.TakingLemmas.{readers_read}

-- a part that isn't in a list enters it at its end
pub Adds-pushed : (k : ℕ) (old new : List ℕ) → IsDistinct nat_eq old → (¬ Contains old k) → new ≡ old ++ k ∷ [] → Adds k old new
Adds-pushed k old new distinct none pushed = subst (Adds k old) (sym pushed) (record {
  stays = λ l there. Contains-append_left old (k ∷ []) l there;
  there = Contains-push old k;
  only = λ l there.
      elim (Contains-push_cases old k l there) [
        | inl before ↦ inl before
        | inr same ↦ inr (sym same)
      ];
  once = IsDistinct-push nat_eq_equiv old k distinct
      (elim (cases_Bool (list_any (nat_eq k) old)) [
        | inl there ↦ absurd (none (Contains-from_any (λ a b e. eqb-true a b e) k old there))
        | inr fails ↦ fails
      ]);
  last = record { last = λ _. (omega (arith, length_push old k), get_or_push old k 0 (length (old ++ k ∷ []) - 1) (omega (arith, length_push old k))) };
})

-- a part that stands last in a list is there
pub Adds-there : (k : ℕ) (old : List ℕ) → IsDistinct nat_eq old → 0 < length old → slice_index old (length old - 1) ≡ k → Adds k old old
Adds-there k old distinct some is =
    let inside : length old - 1 < length old = omega (arith, some) in
    record {
      stays = λ l there. there;
      there = (length old - 1, inside, get_or_default old (length old - 1) k 0 inside ∙ is);
      only = λ l there. inl there;
      once = distinct;
      last = record { last = λ _. (some, is) };
    }

-- where what stands last isn't the part, the part isn't there
pub isnt_there : (k : ℕ) (list : List ℕ) → IsLastIf k list → ¬ ((0 < length list) × (slice_index list (length list - 1) ≡ k)) → ¬ Contains list k
isnt_there k list last other there = other (last.last there)

-- a part that isn't in a list stands last if it is there
pub IsLastIf-none : (k : ℕ) (list : List ℕ) → ¬ Contains list k → IsLastIf k list
IsLastIf-none k list none = record { last = λ there. absurd (none there) }

-- a list without the part has nothing to take out
pub TakesOut-none : (k : ℕ) (list : List ℕ) → IsDistinct nat_eq list → ¬ Contains list k → TakesOut k list list
TakesOut-none k list distinct none = record {
  kept = λ l differs there. there;
  only = λ l there. (there, λ same. none (subst (Contains list) same there));
  distinct = distinct;
}

module _ (mid : List (SmallVec ℕ)) (node : ℕ) (found after : SmallVec ℕ) (inside : node < length mid) where
  -- the list that stands at the node
  abbrev before : SmallVec ℕ
  before = get_or mid node found

  was : before ≡ get_or mid node before
  was = get_or_default mid node found before inside

  -- what holds of the list that is replaced, and of all others, holds of all lists
  pub by_node : (P : ℕ → List ℕ → List ℕ → Type 0) → P node before.items after.items →
      ((other : ℕ) → P other (readers_of mid other) (readers_of mid other)) →
      (other : ℕ) → P other (readers_of mid other) (readers_of (slice_set mid node after) other)
  by_node P here there other =
      elim (cases_eq other node) [
        | inl same ↦
            subst (λ n. P n (readers_of mid n) (readers_of (slice_set mid node after) n)) (sym same)
            (subst (λ xs. P node xs (readers_of (slice_set mid node after) node)) (readers_read mid node before inside was)
            (subst (P node before.items) (sym (readers_of-set_same mid node after inside)) here))
        | inr differs ↦ subst (P other (readers_of mid other)) (sym (readers_of-set_other mid node other after differs)) (there other)
      ]

  -- the list that is replaced, before
  pub AreEachOnce-here : AreEachOnce mid → IsDistinct nat_eq before.items
  AreEachOnce-here each = subst (IsDistinct nat_eq) (sym (readers_read mid node before inside was)) (each.once node)

  pub IsLastIf-here : (k : ℕ) → IsLastIf k (readers_of mid node) → IsLastIf k before.items
  IsLastIf-here k last = subst (IsLastIf k) (sym (readers_read mid node before inside was)) last

-- one node more of those at which a part is listed or unlisted
module _ (k : ℕ) (nodes : List ℕ) (i : ℕ) (old mid : List (SmallVec ℕ)) (found after : SmallVec ℕ) (i_inside : i < length nodes)
    (inside : get_or nodes i 0 < length mid) where
  abbrev node : ℕ
  node = get_or nodes i 0

  more : take (i + 1) nodes ≡ take i nodes ++ node ∷ []
  more = take_more nodes i 0 i_inside

  -- the part enters the list of one node more
  pub ListsLast-more : Adds k (get_or mid node found).items after.items → ListsLast k (take i nodes) old mid → ListsLast k (take (i + 1) nodes) old (slice_set mid node after)
  ListsLast-more added so_far =
      let by = by_node mid node found after inside in
      let grown : (other l : ℕ) → Contains (readers_of mid other) l → Contains (readers_of (slice_set mid node after) other) l =
      λ other l. by (λ n xs ys. Contains xs l → Contains ys l) (added.stays l) (λ n there. there) other in
      let at_node : Contains (readers_of (slice_set mid node after) node) k =
      subst (λ xs. Contains xs k) (sym (readers_of-set_same mid node after inside)) added.there in
      subst (λ xs. ListsLast k xs old (slice_set mid node after)) (sym more) (record {
        lists = record {
          count = length-set mid node after ∙ so_far.lists.count;
          stays = λ other l there. grown other l (so_far.lists.stays other l there);
          listed = λ other there.
              elim (Contains-push_cases (take i nodes) node other there) [
                | inl before_it ↦ grown other k (so_far.lists.listed other before_it)
                | inr same ↦ subst (λ n. Contains (readers_of (slice_set mid node after) n) k) same at_node
              ];
          only = λ other l there.
              let whence : Contains (readers_of mid other) l ⊎ ((other ≡ node) × (l ≡ k)) =
              by (λ n xs ys. Contains ys l → Contains xs l ⊎ ((n ≡ node) × (l ≡ k)))
              (λ in_it. elim (added.only l in_it) [ inl earlier ↦ inl earlier | inr is_k ↦ inr (refl, is_k) ]) (λ n in_it. inl in_it) other there in
              elim whence [
                | inl earlier ↦
                    elim (so_far.lists.only other l earlier) [
                      | inl first ↦ inl first
                      | inr (among, is_k) ↦ inr (Contains-append_left (take i nodes) (node ∷ []) other among, is_k)
                    ]
                | inr (same, is_k) ↦ inr (subst (Contains (take i nodes ++ node ∷ [])) (sym same) (Contains-push (take i nodes) node), is_k)
              ];
        };
        each = record { once = by (λ n xs ys. IsDistinct nat_eq ys) added.once so_far.each.once };
        last = by (λ n xs ys. IsLastIf k ys) added.last so_far.last;
      })

  -- where the part couldn't enter, the node has its readers still
  pub ListsSome-failed : after.items ≡ (get_or mid node found).items → ListsLast k (take i nodes) old mid → ListsSome k nodes old (slice_set mid node after)
  ListsSome-failed same so_far =
      let by = by_node mid node found after inside in
      record {
        count = length-set mid node after ∙ so_far.lists.count;
        stays = λ other l there.
            by (λ n xs ys. Contains xs l → Contains ys l) (subst (λ xs. Contains xs l) (sym same)) (λ n in_it. in_it) other (so_far.lists.stays other l there);
        only = λ other l there.
            elim (so_far.lists.only other l (by (λ n xs ys. Contains ys l → Contains xs l) (subst (λ xs. Contains xs l) same) (λ n in_it. in_it) other there)) [
              | inl earlier ↦ inl earlier
              | inr (among, is_k) ↦ inr (from_front other among, is_k)
            ];
        each = record {
          once = by (λ n xs ys. IsDistinct nat_eq ys)
              (subst (IsDistinct nat_eq) (sym same) (AreEachOnce-here mid node found after inside so_far.each)) so_far.each.once;
        };
      }
    where
      from_front : (x : ℕ) → Contains (take i nodes) x → Contains nodes x
      from_front x there =
          subst (λ list. Contains list x) (take-append-drop i nodes) (Contains-append_left (take i nodes) (drop i nodes) x there)

  -- the part is taken off one list more
  pub Unlists-more : TakesOut k (get_or mid node found).items after.items → Unlists k (take i nodes) old mid → Unlists k (take (i + 1) nodes) old (slice_set mid node after)
  Unlists-more taken so_far =
      let by = by_node mid node found after inside in
      let shrunk : (other l : ℕ) → Contains (readers_of (slice_set mid node after) other) l → Contains (readers_of mid other) l =
      λ other l. by (λ n xs ys. Contains ys l → Contains xs l) (λ there. (taken.only l there).0) (λ n there. there) other in
      subst (λ xs. Unlists k xs old (slice_set mid node after)) (sym more) (record {
        count = length-set mid node after ∙ so_far.count;
        gone = λ other among there.
            elim (Contains-push_cases (take i nodes) node other among) [
              | inl earlier ↦ so_far.gone other earlier (shrunk other k there)
              | inr same ↦
                  let at_node : Contains after.items k =
                  subst (λ xs. Contains xs k) (readers_of-set_same mid node after inside)
                  (subst (λ n. Contains (readers_of (slice_set mid node after) n) k) (sym same) there) in
                  (taken.only k at_node).1 refl
            ];
        stays = λ other l there differs.
            by (λ n xs ys. Contains xs l → Contains ys l) (taken.kept l differs) (λ n in_it. in_it) other (so_far.stays other l there differs);
        only = λ other l there. so_far.only other l (shrunk other l there);
        each = record { once = by (λ n xs ys. IsDistinct nat_eq ys) taken.distinct so_far.each.once };
      })

-- before the first node nothing is listed, and nothing is taken off
pub ListsLast-none : (k : ℕ) (nodes : List ℕ) (lists : List (SmallVec ℕ)) → ((node : ℕ) → ¬ Contains (readers_of lists node) k) → AreEachOnce lists →
    length nodes ≡ 0 → ListsLast k nodes lists lists
ListsLast-none k nodes lists none each empty = record {
  lists = record {
    count = refl;
    stays = λ node l there. there;
    listed = λ node there. absurd (omega (arith, there.1, empty));
    only = λ node l there. inl there;
  };
  each = each;
  last = λ node. IsLastIf-none k (readers_of lists node) (none node);
}

pub Unlists-none : (k : ℕ) (nodes : List ℕ) (lists : List (SmallVec ℕ)) → AreEachOnce lists → length nodes ≡ 0 → Unlists k nodes lists lists
Unlists-none k nodes lists each empty = record {
  count = refl;
  gone = λ node there. absurd (omega (arith, there.1, empty));
  stays = λ node l there differs. there;
  only = λ node l there. there;
  each = each;
}

-- where the part entered each list it is listed at all of the nodes
pub ListsSome-all : (k : ℕ) (nodes : List ℕ) (i : ℕ) (old new : List (SmallVec ℕ)) → length nodes ≤ i → ListsLast k (take i nodes) old new →
    ListsSome k nodes old new × ((node : ℕ) → Contains nodes node → Contains (readers_of new node) k)
ListsSome-all k nodes i old new past so_far =
    let all : take i nodes ≡ nodes = take_all i nodes past in
    let lists : Lists k nodes old new = subst (λ xs. Lists k xs old new) all so_far.lists in
    (record { count = lists.count; stays = lists.stays; only = lists.only; each = so_far.each }, lists.listed)

module _ (slots : List ℕ) (fresh : List MachinePart) (i : ℕ) (k : ℕ) (part : MachinePart) (slot : slice_get slots i ≡ Some k)
    (there : slice_get fresh i ≡ Some part) (old mid new : List (SmallVec ℕ)) where
  same_at : (how_k node : ℕ) (how : ReadsAs slots fresh how_k node) → how.i ≡ i → (how_k ≡ k) × Contains part.reads.items node
  same_at how_k node how is =
      let slots_are : Some how_k ≡ Some k = sym how.slot ∙ (ap (slice_get slots) is ∙ slot) in
      let parts_are : Some how.part ≡ Some part = sym how.there ∙ (ap (slice_get fresh) is ∙ there) in
      let one_k : how_k ≡ k = cc in
      let one_part : how.part ≡ part = cc in
      (one_k, subst (λ (p : MachinePart). Contains p.reads.items node) one_part how.reads)

  slot_there : Contains slots k
  slot_there = (i, slice_get_within slots i k slot, get_or_from_slice_get slots i k k slot)

  -- the next part isn't listed yet
  pub not_yet_listed : AreOnce slots → ((node l : ℕ) → Contains slots l → ¬ Contains (readers_of old node) l) → AreListedTo slots fresh i old mid →
      (node : ℕ) → ¬ Contains (readers_of mid node) k
  not_yet_listed once unlisted so_far node listed =
      elim (so_far.only node k listed) [
        | inl before ↦ unlisted node k slot_there before
        | inr (how, below) ↦
            let here : get_or slots i 0 ≡ k = get_or_from_slice_get slots i k 0 slot in
            let earlier : get_or slots how.i 0 ≡ k = get_or_from_slice_get slots how.i k 0 how.slot in
            once how.i i below (slice_get_within slots i k slot) (earlier ∙ sym here)
      ]

  -- one part more is listed
  pub AreListedTo-more : AreListedTo slots fresh i old mid → ListsSome k part.reads.items mid new →
      ((node : ℕ) → Contains part.reads.items node → Contains (readers_of new node) k) → AreListedTo slots fresh (i + 1) old new
  AreListedTo-more so_far some listed = record {
    count = some.count ∙ so_far.count;
    stays = λ node l was. some.stays node l (so_far.stays node l was);
    listed = λ node how_k how below.
        elim (cases_lt how.i i) [
          | inl earlier ↦ some.stays node how_k (so_far.listed node how_k how earlier)
          | inr later ↦
              let (one_k, reads) = same_at how_k node how (omega (arith, below, later)) in
              subst (Contains (readers_of new node)) (sym one_k) (listed node reads)
        ];
    only = λ node l is_there.
        elim (some.only node l is_there) [
          | inl before ↦
              elim (so_far.only node l before) [
                | inl was ↦ inl was
                | inr (how, below) ↦ inr (how, omega (arith, below))
              ]
          | inr (reads, is_k) ↦ inr (record { i = i; part = part; slot = slot ∙ ap Some (sym is_k); there = there; reads = reads }, omega arith)
        ];
    each = some.each;
  }

  -- one part more is taken off
  pub AreOffTo-more : AreOffTo slots fresh i old mid → Unlists k part.reads.items mid new → AreOffTo slots fresh (i + 1) old new
  AreOffTo-more so_far off = record {
    count = off.count ∙ so_far.count;
    gone = λ node how_k how below listed.
        elim (cases_lt how.i i) [
          | inl earlier ↦ so_far.gone node how_k how earlier (off.only node how_k listed)
          | inr later ↦
              let (one_k, reads) = same_at how_k node how (omega (arith, below, later)) in
              off.gone node reads (subst (Contains (readers_of new node)) one_k listed)
        ];
    stays = λ node l was no_slot.
        off.stays node l (so_far.stays node l was no_slot) (λ is_k. no_slot (subst (Contains slots) (sym is_k) slot_there));
    only = λ node l is_there. so_far.only node l (off.only node l is_there);
    each = off.each;
  }

  -- where one part can't be listed, and all are taken off again, the readers are the same
  pub HaveSameReaders-off : (last : List (SmallVec ℕ)) → ((node l : ℕ) → Contains slots l → ¬ Contains (readers_of old node) l) →
      length fresh ≡ length slots → AreListedTo slots fresh i old mid → ListsSome k part.reads.items mid new → AreOffTo slots fresh (length fresh) new last →
      HaveSameReaders old last
  HaveSameReaders-off last unlisted counted so_far some off = record {
    count = off.count ∙ (some.count ∙ so_far.count);
    stays = λ node l was. off.stays node l (some.stays node l (so_far.stays node l was)) (λ is_slot. unlisted node l is_slot was);
    only = λ node l is_there.
        elim (some.only node l (off.only node l is_there)) [
          | inl before ↦
              elim (so_far.only node l before) [
                | inl was ↦ was
                | inr (how, below) ↦ absurd (off.gone node l how (slice_get_within fresh how.i how.part how.there) is_there)
              ]
          | inr (reads, is_k) ↦
              let how : ReadsAs slots fresh l node = record { i = i; part = part; slot = slot ∙ ap Some (sym is_k); there = there; reads = reads } in
              absurd (off.gone node l how (slice_get_within fresh i part there) is_there)
        ];
  }

-- before the first part none is listed, and none taken off
pub AreListedTo-none : (slots : List ℕ) (fresh : List MachinePart) (lists : List (SmallVec ℕ)) → AreEachOnce lists → AreListedTo slots fresh 0 lists lists
AreListedTo-none slots fresh lists each = record {
  count = refl;
  stays = λ node l there. there;
  listed = λ node k how below. absurd (omega (arith, below));
  only = λ node l there. inl there;
  each = each;
}

pub AreOffTo-none : (slots : List ℕ) (fresh : List MachinePart) (lists : List (SmallVec ℕ)) → AreEachOnce lists → AreOffTo slots fresh 0 lists lists
AreOffTo-none slots fresh lists each = record {
  count = refl;
  gone = λ node k how below. absurd (omega (arith, below));
  stays = λ node l there not_slot. there;
  only = λ node l there. there;
  each = each;
}

-- one part more of a machine that is made is listed
pub AreListed-more : (parts : List MachinePart) (i : ℕ) (part : MachinePart) → Stands parts i part → (count : ℕ) (lists new : List (SmallVec ℕ)) →
    ListsSome i part.reads.items lists new → ((node : ℕ) → Contains part.reads.items node → Contains (readers_of new node) i) →
    AreListed parts count i lists → AreListed parts count (i + 1) new
AreListed-more parts i part stands count lists new some listed so_far = record {
  counted = some.count ∙ so_far.counted;
  readers = λ node k below reads.
      elim (cases_eq k i) [
        | inl same ↦
            let one = same_part parts i part reads.part stands (subst (λ n. Stands parts n reads.part) same reads.stands) in
            let contained = subst (λ (p : MachinePart). Contains p.reads.items node) (sym one) reads.reads in
            subst (Contains (readers_of new node)) (sym same) (listed node contained)
        | inr differs ↦ some.stays node k (so_far.readers node k (omega (arith, below, differs)) reads)
      ];
  reads = λ node k there.
      elim (some.only node k there) [
        | inl before ↦ so_far.reads node k before
        | inr (among, same) ↦ record { part = part; stands = subst (λ n. Stands parts n part) (sym same) stands; reads = among }
      ];
  below = λ node k there.
      elim (some.only node k there) [
        | inl before ↦ omega (arith, so_far.below node k before)
        | inr (among, same) ↦ omega (arith, same)
      ];
  each = some.each;
}

-- before the first part none is
pub AreListed-none : (parts : List MachinePart) (lists : List (SmallVec ℕ)) →
    ((node k : ℕ) → ¬ Contains (readers_of lists node) k) → AreEachOnce lists →
    AreListed parts (length lists) 0 lists
AreListed-none parts lists none each = record {
  counted = refl;
  readers = λ node k below reads. absurd (omega (arith, below));
  reads = λ node k there. absurd (none node k there);
  below = λ node k there. absurd (none node k there);
  each = each;
}

-- lists without readers have none twice, and neither have lists with the same readers
pub AreEachOnce-none : (lists : List (SmallVec ℕ)) → ((node : ℕ) → readers_of lists node ≡ []) → AreEachOnce lists
unfolding IsDistinct
AreEachOnce-none lists none = record { once = λ node. subst (IsDistinct nat_eq) (sym (none node)) tt }

pub AreEachOnce-same : (old new : List (SmallVec ℕ)) → ((node : ℕ) → readers_of new node ≡ readers_of old node) → AreEachOnce old → AreEachOnce new
AreEachOnce-same old new same each = record { once = λ node. subst (IsDistinct nat_eq) (sym (same node)) (each.once node) }

-- what holds on failure holds if there was one
pub at_on_err : {T E : Type 0} (P : Type 0) (result : Result T E) → OnErr result P → is_ok result ≡ false → P
at_on_err P (Ok made) fact is = absurd cc
at_on_err P (Err fault) fact is = fact

-- at a place of the slots one of them stands
pub slot_read : (slots : List ℕ) (i count : ℕ) → i < count → count ≡ length slots → slice_get slots i ≡ Some (get_or slots i 0)
slot_read slots i count inside counted = slice_get-get_or slots i 0 (omega (arith, inside, counted))

-- what the part at a place reads is below the number of nodes
pub reads_below : (parts : List MachinePart) (count most i : ℕ) (part : MachinePart) (nodes : List ℕ) →
    All (λ (part : MachinePart). All (λ node. node < count) part.reads.items) parts → i < length parts → part ≡ get_or parts i part →
    nodes ≡ part.reads.items → count ≤ most → All (λ node. node < most) nodes
reads_below parts count most i part nodes below inside is read fits = λ k d within.
    let here : All (λ node. node < count) part.reads.items =
    subst (λ (one : MachinePart). All (λ node. node < count) one.reads.items) (sym is) (below i part inside) in
    omega (arith, subst (All (λ node. node < count)) (sym read) here k d within, fits)
