-- A machine that is made: its parts, who owns and who reads each node, and the list of all parts.
use Rattle.std.proofs.Common.{◌≡◌, ◌≢◌, ℕ, zero, suc, ◌+◌, ◌*◌, ◌<◌, ◌≤◌, Bool, true, false, cond, inl, inr, ◌⊎◌, List, [], ◌∷◌, ◌++◌, length, map, take, get_or, All, Option, Some, None, Result, Ok, Err, Vec, Global, nat_eq, refl, sym, ap, ap₂, subst, ◌∙◌, append_assoc, append-nil, arith}
use Rattle.std.specs.Prelude.{◌↔◌, Contains, slice_index, slice_index_or, slice_set, slice_get, zip, replicate, OnOk, count_by}
use Rattle.std.specs.Result.{is_ok}
use Rattle.std.specs.List.{IsDistinct, range_with_len}
use Rattle.std.specs.declared.rc.Rc.{Rc}
use Rattle.std.proofs.lemmas.Bool.{cases_eq, cases_order}
use Rattle.std.proofs.lemmas.Bool.Decides.{Decides-eqb}
use Rattle.std.proofs.lemmas.List.{get_or-set_same, get_or-set_other, get_or-take, get_or_default, get_or-replicate, length-set, length-map, length-replicate, length-take-le, map-set, take_more}
use Rattle.std.proofs.lemmas.List.Elements.{All-nil, All-cons, All-head, All-tail, Contains-push, Contains-push_cases, Contains-append_left}
use Rattle.std.proofs.lemmas.List.Folds.{sum_by-replicate}
use Rattle.std.proofs.lemmas.List.FromFn.{length-map-range_with_len, get_or-map-range_with_len}
use Rattle.std.proofs.lemmas.Map.Made.{AllPairs-from_IsDistinct}
use Rattle.std.proofs.lemmas.Option.{slice_get_read}
use Rattle.smallvec.specs.SmallVec.{SmallVec}
use Rattle.straight_code.specs.Code.{CodeData}
use Rattle.straight_code.specs.declared.part.Part.{Part}
use Rattle.straight_code.specs.Parts as straight
use Rattle.machine_parts.specs.declared.part.MachinePart.{MachinePart}
use Rattle.machine_parts.specs.Parts.{Stands, IsMemberAt, HasMember, ReadsAt, IsStale, AreApart, has_members}
use Rattle.machine_parts.specs.Marking.{IsMarked, count_marked, IsAgenda}
use Rattle.machine_parts.specs.Evaluating.{Rooms, IsSeated}
use Rattle.machine_parts.specs.Running.{AreOwners, IsMachine}
use Rattle.machine_parts.specs.Readers.{readers_of}
use Rattle.machine_parts.specs.Making.{held, Owns, HasRoomFor, IsCodeRoom, IsFormed, AreOwned}
use Rattle.machine_parts.proofs.SetMarks.{marked_inside}
use Rattle.machine_parts.proofs.PartLemmas.{same_part}

-- what holds on success holds if there was one
pub at_on_ok : {T E : Type 0} (P : Type 0) (result : Result T E) → OnOk result P → is_ok result ≡ true → P
at_on_ok P (Ok made) fact is = fact
at_on_ok P (Err fault) fact is = absurd (cc)

-- if no part is marked none is
pub none_marked : (n k : ℕ) → ¬ IsMarked (replicate n false) k
none_marked zero k marked = absurd cc
none_marked (suc n) zero marked = absurd cc
none_marked (suc n) (suc k) marked = none_marked n k marked

-- all of so many parts are marked and listed
pub IsAgenda-all : (n capacity : ℕ) → n ≤ capacity → IsAgenda (replicate n true) (replicate n false) (map (λ k. k) (range_with_len 0 n)) [] 0 capacity
IsAgenda-all n capacity room =
    let work = map (λ k. k) (range_with_len 0 n) in
    let long : length work ≡ n = length-map-range_with_len (λ k. k) 0 n in
    let here : (i d : ℕ) → i < n → get_or work i d ≡ i = λ i d inside. get_or-map-range_with_len (λ k. k) 0 n i i d inside (omega arith) in
    let one : Bool → ℕ = λ mark. cond mark 1 0 in
    let all : count_marked (replicate n true) ≡ n * 1 = sum_by-replicate one n true in
    let none : count_marked (replicate n false) ≡ n * 0 = sum_by-replicate one n false in
    record {
      counted = length-replicate n false ∙ sym (length-replicate n true);
      listed = λ k marked.
          let inside : k < n = omega (arith, marked_inside (replicate n true) k marked, length-replicate n true) in
          inl (k, omega (arith, long, inside), here k k inside);
      marked = λ k (i, inside, is).
          let within : i < n = omega (arith, inside, long) in
          let same : i ≡ k = sym (here i k within) ∙ is in
          get_or-replicate n k true false (omega (arith, within, same));
      ready = λ k there waits. none_marked n k waits;
      waits = λ k waits. absurd (none_marked n k waits);
      once = λ i j before inside same.
          let first = here i 0 (omega (arith, before, inside, long)) in
          let second = here j 0 (omega (arith, inside, long)) in
          omega (arith, before, sym first ∙ (same ∙ second));
      number = omega (arith, long, all, none);
      stale_is = omega (arith, none);
      waiters_all = λ k waits. absurd (none_marked n k waits);
      waiters_inside = λ i d within. absurd (omega (arith, within));
      room = omega (arith, room, length-replicate n true);
    }

-- one part more is held
pub held_more : (all made : List MachinePart) (xs later : List Part) (ys rest : List (Vec ℕ Global)) (x : Part) (y : Vec ℕ Global) →
    xs ≡ x ∷ later → ys ≡ y ∷ rest → all ≡ made ++ map held (zip xs ys) → all ≡ (made ++ held (x, y) ∷ []) ++ map held (zip later rest)
held_more all made xs later ys rest x y xs_are ys_are so_far =
    so_far ∙ (ap₂ (λ parts lists. made ++ map held (zip parts lists)) xs_are ys_are
    ∙ sym (append_assoc made (held (x, y) ∷ []) (map held (zip later rest))))

-- if none is left, all are held
pub held_all : (all made : List MachinePart) (xs : List Part) (ys : List (Vec ℕ Global)) → all ≡ made ++ map held (zip xs ys) → length xs ≡ 0 → made ≡ all
held_all all made [] ys so_far none = sym (so_far ∙ append-nil made)
held_all all made (x ∷ xs) ys so_far none = absurd (omega (arith, none))

abbrev pub items_of : SmallVec ℕ → List ℕ
items_of parts = parts.items

-- the readers of a node whose list is replaced, and those of the others
pub readers_of-set_same : (readers : List (SmallVec ℕ)) (node : ℕ) (parts : SmallVec ℕ) → node < length readers →
    readers_of (slice_set readers node parts) node ≡ parts.items
readers_of-set_same readers node parts inside =
    let within : node < length (map items_of readers) = omega (arith, inside, length-map readers items_of) in
    ap (λ lists. slice_index_or lists node []) (map-set items_of readers node parts) ∙ get_or-set_same (map items_of readers) node parts.items [] within

pub readers_of-set_other : (readers : List (SmallVec ℕ)) (node other : ℕ) (parts : SmallVec ℕ) → other ≢ node →
    readers_of (slice_set readers node parts) other ≡ readers_of readers other
readers_of-set_other readers node other parts differs =
    ap (λ lists. slice_index_or lists other []) (map-set items_of readers node parts)
    ∙ get_or-set_other (map items_of readers) node other parts.items [] differs

-- one node more is owned
pub Owns-more : (k : ℕ) (members : List ℕ) (i node : ℕ) (old mid : List (Option ℕ)) → i < length members → node ≡ get_or members i 0 →
    node < length mid → Owns k (take i members) old mid → Owns k (take (i + 1) members) old (slice_set mid node (Some k))
Owns-more k members i node old mid i_inside is inside so_far =
    let more : take (i + 1) members ≡ take i members ++ node ∷ [] = take_more members i 0 i_inside ∙ ap (λ n. take i members ++ n ∷ []) (sym is) in
    subst (λ xs. Owns k xs old (slice_set mid node (Some k))) (sym more) (record {
      count = length-set mid node (Some k) ∙ so_far.count;
      owned = λ other there.
          elim (cases_eq other node) [
            | inl same ↦ ap (λ n. slice_index_or (slice_set mid node (Some k)) n None) same ∙ get_or-set_same mid node (Some k) None inside
            | inr differs ↦
                get_or-set_other mid node other (Some k) None differs
                ∙ elim (Contains-push_cases (take i members) node other there) [
                  | inl before ↦ so_far.owned other before
                  | inr same ↦ absurd (differs (sym same))
                ]
          ];
      stays = λ other none.
          let differs : other ≢ node = λ same. none (subst (Contains (take i members ++ node ∷ [])) (sym same) (Contains-push (take i members) node)) in
          get_or-set_other mid node other (Some k) None differs
          ∙ so_far.stays other (λ there. none (Contains-append_left (take i members) (node ∷ []) other there));
    })

-- a number stands in a list or doesn't
pub contains_or_not : (xs : List ℕ) (x : ℕ) → Contains xs x ⊎ (¬ Contains xs x)
contains_or_not [] x = inr (λ (k, inside, here). absurd (omega (arith, inside)))
contains_or_not (first ∷ xs) x =
    elim (cases_eq first x) [
      | inl same ↦ inl (0, omega arith, same)
      | inr differs ↦
          elim (contains_or_not xs x) [
            | inl (k, inside, here) ↦ inl (suc k, omega (arith, inside), here)
            | inr none ↦ inr (later first xs x differs none)
          ]
    ]
  where
    later : (first : ℕ) (xs : List ℕ) (x : ℕ) → first ≢ x → (¬ Contains xs x) → ¬ Contains (first ∷ xs) x
    later first xs x differs none (zero, inside, here) = differs here
    later first xs x differs none (suc k, inside, here) = none (k, omega (arith, inside), here)

module _ (parts : List MachinePart) (i : ℕ) (part : MachinePart) (stands : Stands parts i part) (few : part.members ≤ length part.map.items) where
  -- what stands at the front of the part's map is a member of the part
  pub member_at_front : (node : ℕ) → Contains (take part.members part.map.items) node → HasMember parts i node
  member_at_front node (place, inside, here) =
      let first : place < part.members = omega (arith, inside, length-take-le part.members part.map.items few) in
      let within : place < length part.map.items = omega (arith, first, few) in
      record {
        part = part;
        stands = stands;
        place = place;
        member = record {
          inside = first;
          within = within;
          here = get_or_default part.map.items place 0 node within ∙ (sym (get_or-take part.members part.map.items place node first) ∙ here);
        };
      }

  -- and each member stands there
  pub front_of_member : (node : ℕ) → HasMember parts i node → Contains (take part.members part.map.items) node
  front_of_member node has =
      let same = same_part parts i part has.part stands has.stands in
      let member = subst (λ p. IsMemberAt p has.place node) (sym same) has.member in (
        has.place,
        omega (arith, member.inside, length-take-le part.members part.map.items few),
        get_or-take part.members part.map.items has.place node member.inside
            ∙ (get_or_default part.map.items has.place node 0 member.within ∙ member.here),
      )

  -- the members of one part more are owned
  pub AreOwned-more : AreApart parts → (count : ℕ) (owners new : List (Option ℕ)) → Owns i (take part.members part.map.items) owners new →
      AreOwned parts count i owners → AreOwned parts count (i + 1) new
  AreOwned-more apart count owners new owns so_far = record {
    counted = owns.count ∙ so_far.counted;
    owner = λ node k below has.
        elim (cases_eq k i) [
          | inl same ↦ owns.owned node (front_of_member node (subst (λ n. HasMember parts n node) same has)) ∙ ap Some (sym same)
          | inr differs ↦
              let before : k < i = omega (arith, below, differs) in
              let none : ¬ Contains (take part.members part.map.items) node = λ there. differs (apart k i node has (member_at_front node there)) in
              owns.stays node none ∙ so_far.owner node k before has
        ];
    member = λ node k is.
        elim (contains_or_not (take part.members part.map.items) node) [
          | inl there ↦
              let both : Some i ≡ Some k = sym (owns.owned node there) ∙ is in
              let same : i ≡ k = cc in
              subst (λ n. HasMember parts n node) same (member_at_front node there)
          | inr none ↦ so_far.member node k (sym (owns.stays node none) ∙ is)
        ];
  }

-- two places of a map whose nodes are apart have two nodes
places_apart : (xs : List ℕ) → IsDistinct nat_eq xs → (i j : ℕ) → i < length xs → j < length xs → slice_index xs i ≡ slice_index xs j → i ≡ j
places_apart xs apart i j i_inside j_inside same =
    let pairs = AllPairs-from_IsDistinct Decides-eqb xs apart in
    elim (cases_order i j) [
      | inl equal ↦ equal
      | inr other ↦
          elim other [
            | inl before ↦ absurd (pairs i j 0 before j_inside same)
            | inr after ↦ absurd (pairs j i 0 after i_inside (sym same))
          ]
    ]

-- a part that fits so many nodes is formed
formed_part : (count : ℕ) (part : Part) (nodes : Vec ℕ Global) → straight.IsPart count part → IsFormed count (held (part, nodes))
formed_part count part nodes fits = record {
  below = fits.below;
  members = fits.members;
  apart = places_apart part.map.items fits.apart;
  inputs = λ code is. let same : part.code ≡ code = cc in subst (λ (shared : Rc CodeData Global). length part.map.items ≡ shared.value.inputs) same fits.inputs;
  outputs = λ code is. let same : part.code ≡ code = cc in subst (λ (shared : Rc CodeData Global). length shared.value.outputs ≡ part.members) same fits.outputs;
}

pub formed_parts : (count : ℕ) (parts : List Part) (reads : List (Vec ℕ Global)) → All (straight.IsPart count) parts →
    All (IsFormed count) (map held (zip parts reads))
formed_parts count [] reads fit = All-nil (IsFormed count)
formed_parts count (part ∷ parts) [] fit = All-nil (IsFormed count)
formed_parts count (part ∷ parts) (nodes ∷ reads) fit =
    All-cons (IsFormed count) (held (part, nodes)) (map held (zip parts reads))
    (formed_part count part nodes (All-head (straight.IsPart count) part parts fit))
    (formed_parts count parts reads (All-tail (straight.IsPart count) part parts fit))

-- what the parts read is there
pub reads_inside : (count : ℕ) (parts : List Part) (reads : List (Vec ℕ Global)) → All (λ nodes. All (λ node. node < count) nodes.items) reads →
    All (λ part. All (λ node. node < count) part.reads.items) (map held (zip parts reads))
reads_inside count [] reads below = All-nil (λ (part : MachinePart). All (λ node. node < count) part.reads.items)
reads_inside count (part ∷ parts) [] below = All-nil (λ (part : MachinePart). All (λ node. node < count) part.reads.items)
reads_inside count (part ∷ parts) (nodes ∷ reads) below =
    let P : Vec ℕ Global → Type 0 = λ list. All (λ node. node < count) list.items in
    All-cons (λ (part : MachinePart). All (λ node. node < count) part.reads.items) (held (part, nodes)) (map held (zip parts reads))
    (All-head P nodes reads below) (reads_inside count parts reads (All-tail P nodes reads below))

-- the part that is held under a number is the part with this number
held_at : (parts : List Part) (reads : List (Vec ℕ Global)) (k : ℕ) (one : MachinePart) → Stands (map held (zip parts reads)) k one →
    (part : Part) × (slice_get parts k ≡ Some part) × (part.members ≡ one.members) × (part.map ≡ one.map)
held_at [] reads k one stands = absurd (omega (arith, stands.inside))
held_at (part ∷ parts) [] k one stands = absurd (omega (arith, stands.inside))
held_at (part ∷ parts) (nodes ∷ reads) zero one stands =
    (part, refl, ap (λ (p : MachinePart). p.members) stands.here, ap (λ (p : MachinePart). p.map) stands.here)
held_at (part ∷ parts) (nodes ∷ reads) (suc k) one stands =
    held_at parts reads k one (record { inside = omega (arith, stands.inside); here = stands.here })

-- parts that share no member are apart
pub apart_parts : (parts : List Part) (reads : List (Vec ℕ Global)) →
    ((node k j l i : ℕ) → straight.IsMemberAt parts node k j → straight.IsMemberAt parts node l i → k ≡ l) → AreApart (map held (zip parts reads))
apart_parts parts reads share k l node one two =
    share node k one.place l two.place (member_of k node one) (member_of l node two)
  where
    member_of : (k node : ℕ) (has : HasMember (map held (zip parts reads)) k node) → straight.IsMemberAt parts node k has.place
    member_of k node has =
        let (part, stands, members, maps) = held_at parts reads k has.part has.stands in
        let lists : part.map.items ≡ has.part.map.items = ap (λ (list : Vec ℕ Global). list.items) maps in
        let within : has.place < length part.map.items = omega (arith, has.member.within, ap length lists) in
        let here : node ≡ get_or part.map.items has.place node =
        sym (get_or_default part.map.items has.place node 0 within ∙ (ap (λ xs. slice_index xs has.place) lists ∙ has.member.here)) in
        record {
          part = part;
          stands = stands;
          is_member = omega (arith, has.member.inside, members);
          at_place = slice_get_read part.map.items (length part.map.items) has.place node refl within here;
        }

-- if there is room for a part's code the part can be run
pub IsSeated-formed : (count : ℕ) (room : Rooms) (part : MachinePart) → IsFormed count part → IsCodeRoom room.values part → IsSeated count room part
IsSeated-formed count room part form values = record {
  below = form.below;
  members = form.members;
  apart = form.apart;
  coded = λ code is. record { inputs = form.inputs code is; outputs = form.outputs code is; value_room = values code is };
}

-- a machine that starts with parts that have code can run
pub IsMachine-started : (parts : List MachinePart) (count : ℕ) (lists : List (SmallVec ℕ)) (owners numbers : List (Option ℕ)) (number most : ℕ) (room : Rooms) →
    All (IsFormed count) parts → AreApart parts → length lists ≡ count →
    ((node k : ℕ) → ReadsAt parts k node → Contains (readers_of lists node) k) →
    ((node k : ℕ) → Contains (readers_of lists node) k → ReadsAt parts k node) → AreOwners parts count owners →
    length parts ≤ length numbers → number ≡ count_by has_members parts → most ≡ room.changes → HasRoomFor parts room →
    (waiting : List Bool) → ((k : ℕ) → IsMarked waiting k ↔ IsStale parts k) →
    IsMachine parts (replicate (length parts) true) waiting count lists owners numbers number most room
IsMachine-started parts count lists owners numbers number most room formed apart counted readers reads own numbered number_is most_is fits waiting waits = record {
  runs = record {
    counted = length-replicate (length parts) true;
    seated = λ k d inside. IsSeated-formed count room _ (formed k d inside) (fits.values k d inside);
    apart = apart;
    waits = λ k marked. (waits k).0 marked;
    stale = λ k stale. (waits k).1 stale;
    readers_counted = counted;
    readers = readers;
    reads = reads;
    changes_room = fits.changes;
    parts_room = fits.parts_room;
  };
  own = own;
  numbered = numbered;
  number = number_is;
  most_members = omega (arith, fits.changes, most_is);
  most_room = omega (arith, most_is);
}

-- as many parts are held as there are
pub held_count : (parts : List Part) (reads : List (Vec ℕ Global)) → length reads ≡ length parts → length (map held (zip parts reads)) ≡ length parts
held_count [] reads same = refl
held_count (part ∷ parts) [] same = absurd (omega (arith, same))
held_count (part ∷ parts) (nodes ∷ reads) same = omega (arith, held_count parts reads (omega (arith, same)))

-- and no more
pub held_few : (parts : List Part) (reads : List (Vec ℕ Global)) → length (map held (zip parts reads)) ≤ length parts
held_few [] reads = omega arith
held_few (part ∷ parts) [] = omega arith
held_few (part ∷ parts) (nodes ∷ reads) = omega (arith, held_few parts reads)
