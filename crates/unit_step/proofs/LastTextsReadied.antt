-- The texts of the last build are known while stale parts get their texts: where these parts begin is noted, and they begin where they did.
use Rattle.std.proofs.Common.{◌≡◌, ℕ, ◌<◌, ◌≤◌, inl, inr, ◌⊎◌, List, length, get_or, All, Option, Some, None, Vec, Global, refl, sym, ap, subst, ◌∙◌, arith, length-append}
use Rattle.std.specs.Prelude.{Contains, slice_index_or}
use Rattle.std.specs.List.{AllZip}
use Rattle.std.proofs.lemmas.List.Elements.{All-contains, Contains-get_or}
use Rattle.switch_paths.specs.Graphs.{GraphData}
use Rattle.group_meaning.specs.Groups.{Group}
use Rattle.group_text.specs.Texts.{GroupTextData}
use Rattle.kept_parts.specs.Uses.{UsesData, IsNumbered, some_texts, count_distinct}
use Rattle.kept_parts.proofs.NumberLemmas.{used_known_more}
use Rattle.machine_parts.specs.declared.part.MachinePart.{MachinePart}
use Rattle.unit_step.specs.declared.last_texts.LastTexts.{LastTexts}
use Rattle.machine_parts.specs.Parts.{IsMemberAt}
use Rattle.machine_laws.specs.Machines.{MachineData}
use Rattle.machine_parts.specs.Evaluating.{Rooms, IsSeated}
use Rattle.machine_laws.specs.Fitting.{Covers}
use Rattle.machine_laws.specs.Finishing.{IsFresh, AreWaiting}
use Rattle.machine_parts.specs.Putting.{Puts}
use Rattle.machine_laws.specs.Beginnings.{BeginsAt}
use Rattle.unit_step.specs.LastTexts.{AreLastTexts, texts_of_last, texts_numbered}
use Rattle.machine_laws.proofs.PartGroups.{member_from_part}
use Rattle.unit_step.proofs.FinishingReadied.{read_same}
use Rattle.machine_laws.proofs.StayingParts.{Stands-at, at-Stands, stays_or_comes}
use Rattle.machine_laws.proofs.LastTextsGroups.{first_member}

-- the same is known where further texts get numbers
pub AreLastTexts-numbered : (parts : List MachinePart) (old new : UsesData) (count : ℕ) (last_texts : LastTexts) → IsNumbered old new →
    AreLastTexts parts old.numbers count (length old.known) last_texts → AreLastTexts parts new.numbers count (length new.known) last_texts
AreLastTexts-numbered parts old new count last_texts numbered are =
    let longer : length old.known ≤ length new.known = omega (arith, ap length numbered.known, length-append old.known numbered.more) in
    subst (λ numbers. AreLastTexts parts numbers count (length new.known) last_texts) (sym numbered.numbers) (record {
      counted = are.counted;
      inside = λ node number is. omega (arith, are.inside node number is, longer);
      begins = are.begins;
      lasts = are.lasts;
      within = are.within;
      beyond = are.beyond;
    })

-- the texts of the last build stay where further texts get numbers
pub texts_of_last-numbered : (old new : UsesData) (now : List GroupTextData) (last_texts noted : LastTexts) → IsNumbered old new → now ≡ new.known →
    noted.numbers ≡ last_texts.numbers →
    ((node number : ℕ) → slice_index_or last_texts.numbers.items node None ≡ Some number → number < length old.known) →
    texts_of_last now noted ≡ texts_of_last old.known last_texts
texts_of_last-numbered old new now last_texts noted numbered now_is numbers_are inside =
    let before : UsesData = record { known = old.known; numbers = last_texts.numbers.items } in
    let after : UsesData = record { known = new.known; numbers = last_texts.numbers.items } in
    let more : IsNumbered before after = record { more = numbered.more; known = numbered.known; numbers = refl } in
    ap (λ known. texts_of_last known noted) now_is
    ∙ (ap (λ (list : Vec (Option ℕ) Global). texts_numbered new.known list.items) numbers_are
    ∙ ap some_texts (used_known_more before after inside more))

-- a machine in which as many texts are used, and were at the last build
pub same_texts_left : (m : MachineData) (uses : List (Option GroupTextData)) (last : List GroupTextData) → uses ≡ m.uses → last ≡ m.last →
    record m { uses = uses; texts = count_distinct uses; last = last } ≡ record m { texts = count_distinct m.uses }
same_texts_left m uses last uses_are last_is = λ i. record m { uses = uses_are i; texts = count_distinct (uses_are i); last = last_is i }

module _ (parts : List MachinePart) (numbers : List (Option ℕ)) (count known : ℕ) where
  -- a part begins at a node that is there
  begins_inside : (room : Rooms) → All (IsSeated count room) parts → (k node : ℕ) → BeginsAt parts k node → node < count
  begins_inside room seated k node begins =
      let seat = subst (IsSeated count room) begins.stands.here (seated k begins.part begins.stands.inside) in
      subst (λ n. n < count) begins.first.here (seat.below 0 0 begins.first.within)

  -- some nodes more are noted at which parts begin
  pub AreLastTexts-noted : (room : Rooms) → All (IsSeated count room) parts → (slots : List ℕ) (last_texts noted : LastTexts) →
      noted.numbers ≡ last_texts.numbers → ((node : ℕ) → Contains last_texts.changed.items node → Contains noted.changed.items node) →
      ((node : ℕ) → Contains noted.changed.items node →
      Contains last_texts.changed.items node ⊎ ((k : ℕ) × Contains slots k × BeginsAt parts k node)) →
      AreLastTexts parts numbers count known last_texts → AreLastTexts parts numbers count known noted
  AreLastTexts-noted room seated slots last_texts noted numbers_are stays only are = record {
    counted = ap (λ (list : Vec (Option ℕ) Global). length list.items) numbers_are ∙ are.counted;
    inside = λ node number is. are.inside node number (sym (still node) ∙ is);
    begins = λ node number is none. are.begins node number (sym (still node) ∙ is) (λ there. none (stays node there));
    lasts = λ node number begins none. still node ∙ are.lasts node number begins (λ there. none (stays node there));
    within = λ i d inside.
        let node = get_or noted.changed.items i d in
        elim (only node (Contains-get_or noted.changed.items i d inside)) [
          | inl was ↦ All-contains (λ n. n < count) last_texts.changed.items node are.within was
          | inr (k, slot, begins) ↦ begins_inside room seated k node begins
        ];
    beyond = are.beyond;
  }
    where
      still : (node : ℕ) → slice_index_or noted.numbers.items node None ≡ slice_index_or last_texts.numbers.items node None
      still node = ap (λ (list : Vec (Option ℕ) Global). slice_index_or list.items node None) numbers_are

module _ (g : GraphData) (m : MachineData) (covers : Covers g m) (groups some : List Group) (slots : List ℕ) (waiting : AreWaiting g m.parts m.uses groups some slots)
    (fresh : List MachinePart) (fresh_are : AllZip (IsFresh g) some fresh) (new : List MachinePart) (puts : Puts slots fresh m.parts new) where
  -- a part begins where it did
  BeginsAt-was : (k node : ℕ) → BeginsAt new k node → BeginsAt m.parts k node
  BeginsAt-was k node begins =
      elim (stays_or_comes g m covers groups some slots waiting fresh fresh_are new puts k begins.part begins.stands) [
        | inl stays ↦ record { part = begins.part; stands = stays.stands; first = begins.first }
        | inr comes ↦
            let here = member_from_part g comes.group begins.part comes.is.is_part 0 node begins.first in
            record {
              part = comes.was.part;
              stands = comes.was.stands;
              first = subst (IsMemberAt comes.was.part 0) here (first_member g comes.group comes.was.part comes.was.is_part);
            }
      ]

  -- and one that waited for no text stays
  BeginsAt-stays : (k node : ℕ) → ¬ Contains slots k → BeginsAt m.parts k node → BeginsAt new k node
  BeginsAt-stays k node no_slot begins = record {
    part = begins.part;
    stands = Stands-at new k begins.part (puts.stays k no_slot ∙ at-Stands m.parts k begins.part begins.stands);
    first = begins.first;
  }

  module _ (old_numbers new_numbers : List (Option ℕ)) (items : List (Option ℕ)) (text_puts : Puts slots items old_numbers new_numbers) (count known : ℕ)
      (last_texts : LastTexts) (are : AreLastTexts m.parts old_numbers count known last_texts)
      (noted : (k node : ℕ) → Contains slots k → BeginsAt m.parts k node → Contains last_texts.changed.items node)
      (inside : All (λ k. k < length m.parts) slots) where
    number_stays : (k : ℕ) → ¬ Contains slots k → slice_index_or new_numbers k None ≡ slice_index_or old_numbers k None
    number_stays k no_slot = read_same new_numbers old_numbers k (text_puts.stays k no_slot)

    -- where the parts begin that got their texts is noted
    pub AreLastTexts-readied : AreLastTexts new new_numbers count known last_texts
    AreLastTexts-readied = record {
      counted = are.counted;
      inside = are.inside;
      begins = λ node number is none.
          let begins = are.begins node number is none in
          let no_slot : ¬ Contains slots begins.k = λ there. none (noted begins.k node there begins.at) in
          record { k = begins.k; at = BeginsAt-stays begins.k node no_slot begins.at; has = number_stays begins.k no_slot ∙ begins.has };
      lasts = λ node number begins none.
          let at = BeginsAt-was begins.k node begins.at in
          let no_slot : ¬ Contains slots begins.k = λ there. none (noted begins.k node there at) in
          are.lasts node number (record { k = begins.k; at = at; has = sym (number_stays begins.k no_slot) ∙ begins.has }) none;
      within = are.within;
      beyond = λ k past.
          let no_slot : ¬ Contains slots k = λ there. absurd (omega (arith, past, puts.count, All-contains (λ one. one < length m.parts) slots k inside there)) in
          number_stays k no_slot ∙ are.beyond k (omega (arith, past, puts.count));
    }
