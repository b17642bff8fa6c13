-- A machine whose stale parts got their codes.
use Rattle.std.proofs.Common.{◌≡◌, ◌≢◌, ℕ, zero, suc, ◌<◌, ◌≤◌, inl, inr, Bool, List, [], ◌∷◌, length, map, get_or, All, Option, Some, None, Vec, Global, refl, sym, ap, subst, ◌∙◌, arith}
use Rattle.std.specs.Prelude.{◌↔◌, Contains, slice_get, slice_index_or, unwrap_or, zip}
use Rattle.std.specs.List.{AllZip}
use Rattle.std.specs.Option.{option_and_then}
use Rattle.std.proofs.lemmas.List.{length-map}
use Rattle.std.proofs.lemmas.List.Elements.{All-filter, All-nil, All-cons, Contains-get_or}
use Rattle.std.proofs.lemmas.Option.{slice_get_read, slice_get_within, get_or_from_slice_get, slice_get-get_or, unwrap_or-slice_get}
use Rattle.std.proofs.lemmas.Slice.Zip.{AllZip-long}
use Rattle.smallvec.specs.SmallVec.{SmallVec}
use Rattle.switch_paths.specs.Graphs.{GraphData, IsWired, nodes}
use Rattle.group_meaning.specs.Groups.{Group, IsGroup, AreGroups}
use Rattle.group_text.specs.Texts.{GroupTextData, text_of_group}
use Rattle.straight_code.specs.declared.part.Part.{Part}
use Rattle.straight_code.specs.Parts as straight
use Rattle.circuit_texts.specs.Parts as made
use Rattle.circuit_texts.specs.Reading.{AreReads}
use Rattle.circuit_texts.proofs.PartLemmas.{IsPart-from_group}
use Rattle.circuit_texts.specs.Sizes.{fault_in}
use Rattle.circuit_texts.proofs.PairedLists.{partner_first}
use Rattle.kept_parts.specs.Uses.{UsesData, texts_used, count_distinct}
use Rattle.machine_parts.specs.declared.part.MachinePart.{MachinePart}
use Rattle.machine_parts.specs.Parts.{ReadsAt}
use Rattle.machine_laws.specs.Machines.{MachineData}
use Rattle.machine_parts.specs.Marking.{IsMarked}
use Rattle.machine_parts.specs.Making.{held, IsFormed, IsCodeRoom}
use Rattle.machine_parts.specs.Evaluating.{Rooms}
use Rattle.machine_parts.specs.Running.{IsMachine}
use Rattle.machine_parts.specs.Readers.{readers_of, ListsAll}
use Rattle.machine_laws.specs.Fitting.{Covers}
use Rattle.machine_laws.specs.Finishing.{IsFresh, IsSlotOf, AreWaiting, IsLoosened, Loosens, HasCodeIn, LoosensHeld}
use Rattle.machine_parts.specs.Putting.{Puts}
use Rattle.machine_parts.proofs.PartLemmas.{same_part}
use Rattle.machine_laws.proofs.KeptLemmas.{made_at}
use Rattle.machine_laws.proofs.LastTextsGroups.{first_member}
use Rattle.machine_parts.proofs.MakingLemmas.{formed_parts, reads_inside}
use Rattle.unit_step.proofs.BuildLemmas.{fresh_parts, lists_inside}
use Rattle.unit_step.specs.declared.waking.Risen.{Risen}
use Rattle.unit_step.specs.Waking.{AreMade, HaveCode, IsRisen, Wakes}
use Rattle.unit_step.proofs.FinishingFits.{IsReady-covered}
use Rattle.machine_laws.proofs.StayingParts.{HasMember-was, HasMember-now, members_sum, members_count, AreOwners-new, one_place, stale_stays, stays_stale, IsRunnable-new, told_new, Covers-readied, parts_readied}

-- what stands in a list that is made item by item, where nothing makes nothing
read_map : {A B : Type 0} (h : A → Option B) (xs : List (Option A)) (k : ℕ) →
    slice_index_or (map (option_and_then h) xs) k None ≡ option_and_then h (slice_index_or xs k None)
read_map h [] k = refl
read_map h (x ∷ xs) zero = refl
read_map h (x ∷ xs) (suc k) = read_map h xs k

-- a list of some items, made item by item
map_some : {A B : Type 0} (h : A → Option B) (xs : List A) → map (option_and_then h) (map Some xs) ≡ map h xs
map_some h [] = refl
map_some h (x ∷ xs) = ap (λ rest. h x ∷ rest) (map_some h xs)

-- what stands in a list is read with a default
pub read_same : {X : Type 0} (xs ys : List (Option X)) (k : ℕ) → slice_get xs k ≡ slice_get ys k → slice_index_or xs k None ≡ slice_index_or ys k None
read_same xs ys k same = sym (unwrap_or-slice_get xs k None) ∙ (ap (λ found. unwrap_or found None) same ∙ unwrap_or-slice_get ys k None)

-- numbers of texts are those of known ones
pub known_inside : (known : List GroupTextData) (numbers : List ℕ) (texts : List GroupTextData) → map (slice_get known) numbers ≡ map Some texts →
    All (λ n. n < length known) numbers
known_inside known [] texts are = All-nil (λ n. n < length known)
known_inside known (n ∷ numbers) [] are = absurd cc
known_inside known (n ∷ numbers) (text ∷ texts) are =
    let first : slice_get known n ≡ Some text = cc in
    let rest : map (slice_get known) numbers ≡ map Some texts = cc in
    All-cons (λ k. k < length known) n numbers (slice_get_within known n text first) (known_inside known numbers texts rest)

-- parts that have no code any more are those of their groups still
module _ (old now : MachinePart) (loosened : IsLoosened old now) where
  IsFresh-loosened : (g : GraphData) (group : Group) → IsFresh g group old → IsFresh g group now
  IsFresh-loosened g group fresh = record {
    is_part = record {
      is_group = fresh.is_part.is_group;
      count = loosened.members ∙ fresh.is_part.count;
      members = rw (loosened.members, loosened.map) fresh.is_part.members;
      coded = λ code is. absurd (cc (loosened.code, is));
    };
    quiet = λ none. loosened.reads;
  }

  IsFormed-loosened : (count : ℕ) → IsFormed count old → IsFormed count now
  IsFormed-loosened count formed = record {
    below = rw loosened.map formed.below;
    members = rw (loosened.members, loosened.map) formed.members;
    apart = rw loosened.map formed.apart;
    inputs = λ code is. absurd (cc (loosened.code, is));
    outputs = λ code is. absurd (cc (loosened.code, is));
  }

  inside-loosened : (count : ℕ) → All (λ node. node < count) now.reads.items
  inside-loosened count = rw loosened.reads (All-nil (λ node. node < count))

-- so what holds of each of some parts, whether it has code or not, holds where some have none any more
All-loosened : (P : MachinePart → Type 0) → ((old now : MachinePart) → IsLoosened old now → P old → P now) →
    (old now : List MachinePart) → Loosens old now →
    All P old → All P now
All-loosened P still old now loosens all i d inside =
    let part = get_or now i d in
    let within : i < length old = omega (arith, inside, loosens.count) in
    let was = get_or old i d in
    elim (loosens.each i was part (slice_get-get_or old i d within) (slice_get-get_or now i d inside)) [
      | inl same ↦ subst P (sym same) (all i d within)
      | inr loosened ↦ still was part loosened (all i d within)
    ]

-- and of each with its group
pub fresh-loosened : (g : GraphData) (groups : List Group) (old now : List MachinePart) → Loosens old now → AllZip (IsFresh g) groups old →
    AllZip (IsFresh g) groups now
fresh-loosened g [] [] [] loosens fresh = tt
fresh-loosened g [] [] (part ∷ now) loosens fresh = absurd (omega (arith, loosens.count))
fresh-loosened g [] (was ∷ old) now loosens fresh = absurd fresh
fresh-loosened g (group ∷ groups) [] now loosens fresh = absurd fresh
fresh-loosened g (group ∷ groups) (was ∷ old) [] loosens fresh = absurd (omega (arith, loosens.count))
fresh-loosened g (group ∷ groups) (was ∷ old) (part ∷ now) loosens fresh = (
  elim (loosens.each 0 was part refl refl) [
    | inl same ↦ subst (IsFresh g group) (sym same) fresh.0
    | inr loosened ↦ IsFresh-loosened was part loosened g group fresh.0
  ],
  fresh-loosened g groups old now
      (record { count = omega (arith, loosens.count); each = λ i one two at_one at_two. loosens.each (suc i) one two at_one at_two }) fresh.1,
)

-- the parts of groups have nodes
pub has_nodes : (g : GraphData) (groups : List Group) (parts : List MachinePart) → AllZip (IsFresh g) groups parts → All (λ (part : MachinePart). 0 < length part.map.items) parts
has_nodes g groups parts fresh i d inside =
    let part = get_or parts i d in
    let (group, at, is) = partner_first (IsFresh g) groups parts i part fresh (slice_get-get_or parts i d inside) in
    (first_member g group part is.is_part).within

pub formed-loosened : (count : ℕ) (old now : List MachinePart) → Loosens old now → All (IsFormed count) old → All (IsFormed count) now
formed-loosened count old now loosens formed =
    All-loosened (IsFormed count) (λ was part loosened. IsFormed-loosened was part loosened count) old now loosens formed

pub below-loosened : (count : ℕ) (old now : List MachinePart) → Loosens old now → All (λ (part : MachinePart). All (λ node. node < count) part.reads.items) old →
    All (λ (part : MachinePart). All (λ node. node < count) part.reads.items) now
below-loosened count old now loosens below =
    All-loosened (λ (part : MachinePart). All (λ node. node < count) part.reads.items)
    (λ was part loosened inside. inside-loosened was part loosened count) old now loosens below

pub AreMade-loosened : (g : GraphData) (some : List Group) (slots : List ℕ) (parts old now : List MachinePart) (count : ℕ) → Loosens old now →
    AreMade g some slots parts old count → AreMade g some slots parts now count
AreMade-loosened g some slots parts old now count loosens are = record {
  fresh_are = fresh-loosened g some old now loosens are.fresh_are;
  formed = formed-loosened count old now loosens are.formed;
  below = below-loosened count old now loosens are.below;
  counted = loosens.count ∙ are.counted;
  long = are.long;
  inside = are.inside;
}

module _ (g : GraphData) (wired : IsWired g) (groups some : List Group) (slots : List ℕ) (old : List MachinePart) (uses : List (Option GroupTextData))
    (are : AreGroups g groups) (waiting : AreWaiting g old uses groups some slots) where
  each_group : All (IsGroup g) some
  each_group = subst (All (IsGroup g)) (sym waiting.some_are) (All-filter waiting.waits (IsGroup g) groups are.each)

  pub parts_counted : (parts : List Part) (reads : List (Vec ℕ Global)) → AllZip (made.IsPartOf g) some parts →
      AllZip (λ group list. AreReads g group list.items) some reads → length reads ≡ length parts
  parts_counted parts reads of reads_are =
      AllZip-long (λ group list. AreReads g group list.items) some reads reads_are ∙ sym (AllZip-long (made.IsPartOf g) some parts of)

  pub AreMade-held : (parts : List Part) (reads : List (Vec ℕ Global)) (fresh : List MachinePart) (count : ℕ) → AllZip (made.IsPartOf g) some parts →
      AllZip (λ group list. AreReads g group list.items) some reads → fresh ≡ map held (zip parts reads) → count ≡ nodes g →
      AreMade g some slots old fresh count
  AreMade-held parts reads fresh count of reads_are fresh_is count_is =
      let zipped = fresh_parts g some each_group parts reads of reads_are in
      let fits : All (straight.IsPart (nodes g)) parts = λ k d inside.
      let part = get_or parts k d in
      let (group, at, is) = partner_first (made.IsPartOf g) some parts k part of (slice_get-get_or parts k d inside) in
      let is_group : IsGroup g group = subst (IsGroup g) (get_or_from_slice_get some k group group at) (each_group k group (slice_get_within some k group at)) in
      IsPart-from_group g wired group is_group part is in
      rw (fresh_is, count_is) (record {
        fresh_are = zipped;
        formed = formed_parts (nodes g) parts reads fits;
        below = reads_inside (nodes g) parts reads (lists_inside g wired some reads reads_are);
        counted = AllZip-long (IsFresh g) some (map held (zip parts reads)) zipped ∙ sym (AllZip-long (IsSlotOf g old) some slots waiting.slots_are);
        long = sym (AllZip-long (IsSlotOf g old) some slots waiting.slots_are);
        inside = λ i d within.
            let k = get_or slots i d in
            let (group, at, slot) = partner_first (IsSlotOf g old) some slots i k waiting.slots_are (slice_get-get_or slots i d within) in
            slot.stands.inside;
      })

-- parts that are made with their codes have them
have_code : (pairs : List (Part × Vec ℕ Global)) (i : ℕ) (part : MachinePart) → slice_get (map held pairs) i ≡ Some part → part.code ≢ None
have_code [] i part at none =
    let inside : i < 0 = slice_get_within [] i part at in
    omega (arith, inside)
have_code ((first, reads) ∷ pairs) zero part at none =
    let both : Some (held (first, reads)) ≡ Some part = at in
    let same : held (first, reads) ≡ part = cc in
    absurd (cc (ap (λ (one : MachinePart). one.code) same, none))
have_code (pair ∷ pairs) (suc i) part at none = have_code pairs i part at none

pub held_have_code : (parts : List Part) (reads : List (Vec ℕ Global)) (fresh : List MachinePart) →
    fresh ≡ map held (zip parts reads) → HaveCode fresh
held_have_code parts reads fresh is i part at = have_code (zip parts reads) i part (subst (λ (list : List MachinePart). slice_get list i ≡ Some part) is at)

-- the slots of the parts that get their codes are there
pub coded_below : (g : GraphData) (m : MachineData) (risen : Risen) → IsRisen g m risen → All (λ k. k < length m.parts) risen.coded.items
coded_below g m risen is i d inside =
    let slots = risen.slots.items in
    let k = get_or risen.coded.items i d in
    let has = (is.coded k).0 (Contains-get_or risen.coded.items i d inside) in
    subst (λ n. n < length m.parts) (get_or_from_slice_get slots has.i k k has.slot) (is.made.inside has.i k (slice_get_within slots has.i k has.slot))

-- the parts that wait are no readers
pub unlisted : (g : GraphData) (m : MachineData) → Covers g m → (groups some : List Group) (slots : List ℕ) → AreWaiting g m.parts m.uses groups some slots →
    (lists : List (SmallVec ℕ)) → ((node k : ℕ) → Contains (readers_of lists node) k → ReadsAt m.parts k node) →
    (node k : ℕ) → Contains slots k → ¬ Contains (readers_of lists node) k
unlisted g m covers groups some slots waiting lists reads node k (i, inside, here) there =
    let at : slice_get slots i ≡ Some k = slice_get_read slots (length slots) i k refl inside (sym here) in
    let (group, group_at, slot) = partner_first (IsSlotOf g m.parts) some slots i k waiting.slots_are at in
    let is = reads node k there in
    let same = same_part m.parts k is.part slot.part is.stands slot.stands in
    let none = covers.quiet k slot.part slot.stands slot.stale in
    let (n, within, found) = subst (λ xs. Contains xs node) none (subst (λ (one : MachinePart). Contains one.reads.items node) same is.reads) in
    absurd (omega (arith, within))

module _ (g : GraphData) (m : MachineData) (covers : Covers g m) (groups some : List Group) (slots : List ℕ) (waiting : AreWaiting g m.parts m.uses groups some slots)
    (fresh new : List MachinePart) (count : ℕ) (are_made : AreMade g some slots m.parts fresh count) (puts : Puts slots fresh m.parts new) where
  -- the machine can run
  pub IsMachine-readied : (lists new_lists : List (SmallVec ℕ)) (marks flags new_flags : List Bool) (owners numbers new_numbers : List (Option ℕ)) (held most : ℕ)
      (room wide : Rooms) → ListsAll slots fresh lists new_lists → All (IsCodeRoom wide.values) fresh →
      room.values ≤ wide.values → wide.changes ≡ room.changes → wide.parts ≡ room.parts →
      (coded : List ℕ) → ((k : ℕ) → Contains coded k ↔ HasCodeIn slots fresh k) →
      ((k : ℕ) → IsMarked new_flags k ↔ (IsMarked flags k × (¬ Contains coded k))) →
      length new_numbers ≡ length numbers → IsMachine m.parts marks flags count lists owners numbers held most room →
      IsMachine new marks new_flags count new_lists owners new_numbers held most wide
  IsMachine-readied lists new_lists marks flags new_flags owners numbers new_numbers held most room wide listed values_room values changes parts coded coded_are released counted machine =
      record {
        runs = IsRunnable-new g m covers groups some slots waiting fresh are_made.fresh_are new puts lists new_lists listed count room wide marks flags new_flags
            machine.runs are_made.formed values_room values changes parts coded coded_are released;
        own = AreOwners-new g m covers groups some slots waiting fresh are_made.fresh_are new puts count owners machine.own;
        numbered = omega (arith, machine.numbered, puts.count, counted);
        number = machine.number ∙ sym (members_count g m covers groups some slots waiting fresh are_made.fresh_are new puts);
        most_members = omega (arith, machine.most_members, members_sum g m covers groups some slots waiting fresh are_made.fresh_are new puts);
        most_room = omega (arith, machine.most_room, changes);
      }

  module _ (mid uses : UsesData) (numbers : List ℕ) (texts : List GroupTextData) (mid_are : texts_used mid ≡ m.uses) (known : uses.known ≡ mid.known)
      (text_puts : Puts slots (map Some numbers) mid.numbers uses.numbers) (numbered : map (slice_get mid.known) numbers ≡ map Some texts)
      (texts_are : texts ≡ map (text_of_group g) some) (fit : All (λ group. fault_in group ≡ None) some)
      (coded : List ℕ) (coded_are : (k : ℕ) → Contains coded k ↔ HasCodeIn slots fresh k) (free : LoosensHeld m.wide fresh) where
    abbrev now_used : List (Option GroupTextData)
    now_used = texts_used uses

    used_counted : length now_used ≡ length m.uses
    used_counted =
        length-map uses.numbers (option_and_then (slice_get uses.known))
        ∙ (text_puts.count ∙ (sym (length-map mid.numbers (option_and_then (slice_get mid.known))) ∙ ap length mid_are))

    used_stay : (k : ℕ) → ¬ Contains slots k → slice_index_or now_used k None ≡ slice_index_or m.uses k None
    used_stay k no_slot =
        read_map (slice_get uses.known) uses.numbers k
        ∙ (ap (λ list. option_and_then (slice_get list) (slice_index_or uses.numbers k None)) known
        ∙ (ap (option_and_then (slice_get mid.known)) (read_same uses.numbers mid.numbers k (text_puts.stays k no_slot))
        ∙ (sym (read_map (slice_get mid.known) mid.numbers k) ∙ ap (λ list. slice_index_or list k None) mid_are)))

    used_come : (i k : ℕ) (group : Group) → slice_get slots i ≡ Some k → slice_get some i ≡ Some group →
        slice_index_or now_used k None ≡ Some (text_of_group g group)
    used_come i k group slot group_at =
        let is_slot : Contains slots k = (i, slice_get_within slots i k slot, get_or_from_slice_get slots i k k slot) in
        let (j, x, place, item, put) = text_puts.put k is_slot in
        let one = one_place g m covers groups some slots waiting fresh are_made.fresh_are new puts j i k place slot in
        let f : Option ℕ → Option GroupTextData = option_and_then (slice_get mid.known) in
        let here : slice_get (map f (map Some numbers)) j ≡ Some (f x) = made_at f (map Some numbers) j x item in
        let lists : map f (map Some numbers) ≡ map Some (map (text_of_group g) some) =
        map_some (slice_get mid.known) numbers ∙ (numbered ∙ ap (map Some) texts_are) in
        let text_at : slice_get (map Some (map (text_of_group g) some)) j ≡ Some (Some (text_of_group g group)) =
        ap (slice_get (map Some (map (text_of_group g) some))) one
        ∙ made_at Some (map (text_of_group g) some) i (text_of_group g group) (made_at (text_of_group g) some i group group_at) in
        let both : Some (f x) ≡ Some (Some (text_of_group g group)) = sym here ∙ (ap (λ list. slice_get list j) lists ∙ text_at) in
        let text_is : f x ≡ Some (text_of_group g group) = cc in
        let number_is : slice_index_or uses.numbers k None ≡ x = get_or_from_slice_get uses.numbers k x None put in
        read_map (slice_get uses.known) uses.numbers k
        ∙ (ap (λ list. option_and_then (slice_get list) (slice_index_or uses.numbers k None)) known ∙ (ap f number_is ∙ text_is))

    abbrev pub woken : MachineData
    woken = record m { parts = new; uses = now_used; texts = count_distinct now_used }

    pub Wakes-readied : Wakes g coded m woken
    Wakes-readied = record {
      ready =
          IsReady-covered g woken
          (Covers-readied g m covers groups some slots waiting fresh are_made.fresh_are new puts now_used used_counted used_stay used_come fit
          (count_distinct now_used) coded coded_are free)
          (told_new g m covers groups some slots waiting fresh are_made.fresh_are new puts now_used used_counted used_stay used_come fit (count_distinct now_used))
          refl;
      last = refl;
      wide = refl;
      stale = λ k. (
        λ stale.
            let (before, other) = stale_stays g m covers groups some slots waiting fresh are_made.fresh_are new puts coded coded_are k stale in
            record { stale = before; other = other },
        λ goes. stays_stale g m covers groups some slots waiting fresh are_made.fresh_are new puts coded coded_are k goes.other goes.stale,
      );
      members = λ k node. (
        HasMember-was g m covers groups some slots waiting fresh are_made.fresh_are new puts k node,
        HasMember-now g m covers groups some slots waiting fresh are_made.fresh_are new puts k node,
      );
      still = record {
        groups = refl;
        parts = parts_readied g m covers groups some slots waiting fresh are_made.fresh_are new puts now_used used_counted used_stay used_come fit (count_distinct now_used);
        marks = refl;
        state = refl;
        moves = refl;
        placed = refl;
      };
    }
