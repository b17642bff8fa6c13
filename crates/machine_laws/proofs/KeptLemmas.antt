-- The texts whose codes a machine's parts have: they are kept, and stay kept.
use Rattle.std.proofs.Common.{◌≡◌, ◌≢◌, ℕ, zero, suc, ◌<◌, Bool, true, false, inl, inr, ◌⊎◌, ◌||◌, List, [], ◌∷◌, ◌++◌, length, map, get_or, Some, None, refl, sym, ap, subst, ◌∙◌, arith}
use Rattle.std.specs.Prelude.{Contains, Option, slice_get, slice_index_or}
use Rattle.std.proofs.lemmas.Bool.{cases_lt}
use Rattle.std.proofs.lemmas.List.Elements.{All-push}
use Rattle.std.proofs.lemmas.Option.{slice_get_read, slice_get_within, get_or_from_slice_get}
use Rattle.switch_paths.specs.declared.switching.Switch.{Switch}
use Rattle.switch_paths.specs.Graphs.{GraphData, IsWired, FitsPlace}
use Rattle.group_meaning.specs.Groups.{Group, IsGroup, AreGroups, id_of}
use Rattle.group_meaning.proofs.UniqueGroups.{id_member, same_by_member}
use Rattle.group_meaning.proofs.GroupLemmas.{member_storage}
use Rattle.channel_groups.specs.declared.change.Change.{Change}
use Rattle.channel_groups.specs.Changes.{undo, is_touched_now}
use Rattle.channel_groups.specs.Grouping.{AreOf}
use Rattle.channel_groups.proofs.EditLemmas.{AreOf-empty_place}
use Rattle.channel_groups.proofs.KeptLemmas.{IsKept-untouched}
use Rattle.channel_groups.proofs.StoreLemmas.{same_more}
use Rattle.group_text.specs.Texts.{GroupTextData, text_of_group}
use Rattle.group_text.specs.Compared.{same_text}
use Rattle.group_text.specs.FirstTexts.{is_among}
use Rattle.group_analysis.specs.Using.{kept_after}
use Rattle.group_rest.specs.Alike.{IsAlike}
use Rattle.group_rest.specs.Rest.{Rests}
use Rattle.group_rest.proofs.AlikeGroups.{IsAlike-sym, alike_groups_have_one_text, alike_groups_rest_alike}
use Rattle.analysis_cache.proofs.UseLemmas.{each_present}
use Rattle.vicinity.specs.Wides.{WideData}
use Rattle.machine_parts.specs.declared.part.MachinePart.{MachinePart}
use Rattle.machine_parts.specs.Parts.{Stands}
use Rattle.machine_laws.specs.Machines.{MachineData, groups_in}
use Rattle.machine_laws.specs.Fitting.{IsPartOf, IsHeldIn, Covers, FitsGraph, AreTold, IsKeptBy}
use Rattle.machine_laws.specs.Editing.{is_touched_in, Edits}
use Rattle.machine_laws.specs.Laws.{with_empty_place, EmptyPlacesAreCovered, EmptyPlacesKeepTexts, BuiltTextsAreKept, MoreTextsAreKept, StepsKeepTexts, PlacingKeepsTexts, FittingMachinesShareTexts, EditsKeepTexts}
use Rattle.circuit_texts.specs.Sizes.{fault_in}
use Rattle.circuit_texts.specs.Told.{has_text, with_text}
use Rattle.circuit_texts.proofs.ToldLemmas.{text_from_fit}
use Rattle.machine_laws.proofs.FilterLemmas.{filter_keeps}
use Rattle.machine_laws.proofs.PartGroups.{one_group}
use Rattle.machine_laws.proofs.FittingLemmas.{none_rest}
use Rattle.machine_laws.proofs.HeldLemmas.{known_or_not}
use Rattle.machine_laws.proofs.AlikeParts.{alike_groups_keep_their_parts}

-- a machine with the same parts has the same texts
same_parts_keep : (g : GraphData) (kept : List GroupTextData) (old new : MachineData) → new.parts ≡ old.parts → new.uses ≡ old.uses → IsKeptBy g kept old →
    IsKeptBy g kept new
same_parts_keep g kept old new same uses_same known k part stands numbered group is_part =
    known k part (subst (λ parts. Stands parts k part) same stands)
    (subst (λ (uses : List (Option GroupTextData)). slice_index_or uses k None ≢ None) uses_same numbered) group is_part

pub steps_keep_texts : StepsKeepTexts
steps_keep_texts g kept joining old new advances known = same_parts_keep g kept old new advances.parts advances.uses known

pub placing_keeps_texts : PlacingKeepsTexts
placing_keeps_texts g kept node value old new places known = same_parts_keep g kept old new places.parts places.uses known

-- a text that is among some is among more
pub among_more : (kept more : List GroupTextData) (text : GroupTextData) → is_among kept text ≡ true → is_among (kept ++ more) text ≡ true
among_more [] more text is = absurd cc
among_more (first ∷ kept) more text is = by (same_text text first) (among_more kept more text) is
  where
    by : (same : Bool) → (is_among kept text ≡ true → is_among (kept ++ more) text ≡ true) → (same || is_among kept text) ≡ true →
        (same || is_among (kept ++ more) text) ≡ true
    by true later is = refl
    by false later is = later is

pub more_texts_are_kept : MoreTextsAreKept
more_texts_are_kept g kept more m known k part stands numbered group is_part =
    among_more kept more (text_of_group g group) (known k part stands numbered group is_part)

-- a group of the graph is among its groups
pub group_there : (g : GraphData) (groups : List Group) → AreGroups g groups → (group : Group) → IsGroup g group →
    (i : ℕ) × (i < length groups) × (slice_get groups i ≡ Some group)
group_there g groups are group is_group =
    let id = id_member g group is_group in
    let (i, other, inside, stands, member) = are.whole (id_of group) (member_storage g group is_group (id_of group) id) in
    let is_other : IsGroup g other = subst (IsGroup g) stands (are.each i other inside) in
    let same : other ≡ group = same_by_member g other group is_other is_group (id_of group) member id in
    (i, inside, slice_get_read groups (length groups) i group refl inside (sym same ∙ (sym stands ∙ ap (get_or groups i) same)))

-- each stale part of a machine that fits a graph has its group's text, if there is one
pub stale_told : (g : GraphData) (m : MachineData) → FitsGraph g m → AreTold g m
stale_told g m fits k part group stands stale is_part fit =
    let some : 0 < part.members = omega (arith, is_part.count, is_part.is_group.some) in
    let (wide, is, held) = fits.coded k part stands some stale in
    held.told (subst (λ it. fault_in it ≡ None) (sym (one_group g held.group group part held.is_part is_part)) fit)

-- so each part of a group with a text has it
pub numbered_told : (g : GraphData) (m : MachineData) → Covers g m → AreTold g m → (k : ℕ) (part : MachinePart) (group : Group) →
    Stands m.parts k part →
    IsPartOf g group part → fault_in group ≡ None → slice_index_or m.uses k None ≢ None
numbered_told g m covers told k part group stands is_part fit =
    elim (known_or_not part.code) [
      | inl (code, is) ↦
          covers.numbered k part stands (omega (arith, is_part.count, is_part.is_group.some)) (λ none. absurd (cc (none, is)))
      | inr none ↦ told k part group stands none is_part fit
    ]

-- all machines that fit a graph have its groups' texts
pub fitting_machines_share_texts : FittingMachinesShareTexts
fitting_machines_share_texts g kept one two fits_one fits_two known k part stands numbered group is_part =
    let covers = fits_one.covers in
    let (i, inside, at) = group_there g covers.groups.groups covers.are.are group is_part.is_group in
    let has = covers.each i group at in
    known has.k has.part has.stands
    (numbered_told g one covers (stale_told g one fits_one) has.k has.part group has.stands has.is_part
    (fits_two.covers.known k part stands numbered group is_part).fits)
    group has.is_part

-- what stands at a place of a list that is made item by item
pub made_at : {A B : Type 0} (f : A → B) (xs : List A) (i : ℕ) (x : A) → slice_get xs i ≡ Some x → slice_get (map f xs) i ≡ Some (f x)
made_at f [] i x at = absurd cc
made_at f (first ∷ xs) zero x at =
    let is : first ≡ x = cc in
    ap (λ one. Some (f one)) is
made_at f (first ∷ xs) (suc i) x at = made_at f xs i x at

-- after a build all texts are kept
pub built_texts_are_kept : BuiltTextsAreKept
built_texts_are_kept large g bound old new before after count m fits builds k part stands numbered group is_part =
    let present = builds.present in
    let has = builds.has in
    let text = text_of_group g group in
    let has_one = text_from_fit group (fits.covers.known k part stands numbered group is_part).fits in
    let (n, within, at_all) = group_there g has.groups has.are group is_part.is_group in
    let (i, inside, here) = filter_keeps has_text has.groups group (n, within, get_or_from_slice_get has.groups n group group at_all) has_one in
    let at : slice_get (with_text has.groups) i ≡ Some group =
    slice_get_read (with_text has.groups) (length (with_text has.groups)) i group refl inside (sym here) in
    let there : slice_get present i ≡ Some text =
    ap (λ list. slice_get list i) has.texts_are ∙ made_at (text_of_group g) (with_text has.groups) i group at in
    let kept = each_present bound present old i text (slice_get_within present i text there) in
    ap (λ list. is_among list text) builds.kept
    ∙ subst (λ one. is_among (kept_after bound present old) one ≡ true) (get_or_from_slice_get present i text text there) kept

-- an edit touches a group or doesn't
touched_or_not : (b : Bool) → (b ≡ true) ⊎ (b ≡ false)
touched_or_not true = inl refl
touched_or_not false = inr refl

module _ (g : GraphData) (change : Change) (old new : MachineData) (wired_before : IsWired (undo g change)) (wired : IsWired g)
    (covers : Covers (undo g change) old) (edits : Edits g change old new) (group : Group) (is_group : IsGroup g group)
    (untouched : is_touched_in g change old group ≡ false) where
  -- a group that the edit doesn't touch is one of both graphs
  pub untouched_alike : IsAlike (undo g change) g group
  untouched_alike =
      let held = covers.groups in
      let now = edits.covers.groups in
      let (i, inside, at) = group_there g now.groups edits.covers.are.are group is_group in
      let there : Contains now.groups group = (i, inside, get_or_from_slice_get now.groups i group group at) in
      let same : groups_in old.groups ≡ held.groups = ap groups_in covers.kept in
      let kept = IsKept-untouched g change held.groups now.groups wired_before wired covers.are.are edits.covers.are.are group there
      (subst (λ list. is_touched_now g change list group ≡ false) same untouched) in
      let (j, within, stood) = kept.was in
      record {
        here = subst (IsGroup (undo g change)) stood (covers.are.are.each j group within);
        there = is_group;
        places = kept.places;
        levels = kept.members;
      }

-- after an edit the parts that have a text are those of untouched groups
pub edits_keep_texts : EditsKeepTexts
edits_keep_texts g change kept old new wired_before wired covers edits known k part stands numbered group is_part =
    elim (touched_or_not (is_touched_in g change old group)) [
      | inl touched ↦ absurd (numbered (edits.untold k part group stands is_part touched))
      | inr untouched ↦
          let before = undo g change in
          let alike = untouched_alike g change old new wired_before wired covers edits group is_part.is_group untouched in
          let was_part = alike_groups_keep_their_parts g before group part wired wired_before (IsAlike-sym before g group alike) is_part in
          let was = known k part (edits.stays k part group stands is_part untouched)
          (λ none. numbered (edits.texts k part group stands is_part untouched ∙ none)) group was_part in
          ap (is_among kept) (alike_groups_have_one_text before g group alike).1 ∙ was
    ]

module _ (g : GraphData) (m : MachineData) (wired : IsWired g) (covers : Covers g m) where
  abbrev more : GraphData
  more = with_empty_place g

  more_wired : IsWired more
  more_wired = record { levels = wired.levels; places = All-push (FitsPlace (length g.levels)) g.places None wired.places tt }

  more_groups : AreOf more covers.groups
  more_groups = AreOf-empty_place g covers.groups covers.are

  -- a group is one with an empty place more too
  more_alike : (group : Group) → IsGroup g group → IsAlike g more group
  more_alike group is_group =
      let (i, inside, at) = group_there g covers.groups.groups covers.are.are group is_group in
      record {
        here = is_group;
        there = subst (IsGroup more) (get_or_from_slice_get covers.groups.groups i group group at) (more_groups.are.each i group inside);
        places = λ place touched. same_more Switch g.places place;
        levels = λ node member. refl;
      }

  -- and its part is its part
  more_part : (group : Group) (part : MachinePart) → IsPartOf g group part → IsPartOf more group part
  more_part group part is_part = alike_groups_keep_their_parts g more group part wired more_wired (more_alike group is_part.is_group) is_part

  -- each part was that of a group, with the same text
  module _ (k : ℕ) (part : MachinePart) (stands : Stands m.parts k part) (group : Group) (is_part : IsPartOf more group part) where
    was_part : (other : Group) × IsPartOf g other part × (other ≡ group)
    was_part =
        let (other, is_other) = covers.whole k part stands (omega (arith, is_part.count, is_part.is_group.some)) in
        (other, is_other, one_group more other group part (more_part other part is_other) is_part)

    pub part_before : IsPartOf g group part
    part_before = subst (λ one. IsPartOf g one part) was_part.2 was_part.1

    pub text_before : text_of_group more group ≡ text_of_group g group
    text_before = (alike_groups_have_one_text g more group (more_alike group part_before.is_group)).1

  -- a group that is stepped by vicinities is held
  more_held : (wide : WideData) (text : Option GroupTextData) (part : MachinePart) → IsHeldIn g m.state wide text part → IsHeldIn more m.state wide text part
  more_held wide text part held =
      let whole = more_alike held.group held.alike.here in
      record {
        group = held.group;
        is_part = more_part held.group part held.is_part;
        allowed = held.allowed;
        told = held.told;
        wired = held.wired;
        alike = record {
          here = whole.there;
          there = held.alike.there;
          places = λ place inside. held.alike.places place inside ∙ sym (whole.places place inside);
          levels = λ node member. held.alike.levels node member ∙ sym (whole.levels node member);
        };
        rests = held.rests;
      }

  covers_more : Covers more m
  covers_more = record {
    groups = covers.groups;
    kept = covers.kept;
    are = more_groups;
    counted = covers.counted;
    each = λ i group at.
        let has = covers.each i group at in
        record { k = has.k; part = has.part; stands = has.stands; is_part = more_part group has.part has.is_part };
    whole = λ k part stands some.
        let (group, is_part) = covers.whole k part stands some in
        (group, more_part group part is_part);
    apart = covers.apart;
    number = covers.number;
    known = λ k part stands numbered group is_part.
        let was = covers.known k part stands numbered group (part_before k part stands group is_part) in
        record { same = was.same ∙ ap Some (sym (text_before k part stands group is_part)); fits = was.fits };
    numbered = covers.numbered;
    textless = covers.textless;
    uses_counted = covers.uses_counted;
    quiet = covers.quiet;
    waits = covers.waits;
    rests = λ k part stands unmarked.
        elim (cases_lt 0 part.members) [
          | inl some ↦
              let (group, is_part) = covers.whole k part stands some in
              let rests = subst (Rests g m.state) is_part.members (covers.rests k part stands unmarked) in
              subst (Rests more m.state) (sym is_part.members)
              ((alike_groups_rest_alike g more group m.state wired more_wired (more_alike group is_part.is_group)).1 rests)
          | inr none ↦ none_rest more m.state part.map.items part.members none
        ];
    stale_only = covers.stale_only;
    held = λ wide is k part stands some none.
        elim (covers.held wide is k part stands some none) [
          | inl held ↦ inl (more_held wide (slice_index_or m.uses k None) part held)
          | inr outside ↦ inr outside
        ];
  }

-- an empty place more
pub empty_places_are_covered : EmptyPlacesAreCovered
empty_places_are_covered g m wired covers = covers_more g m wired covers

pub empty_places_keep_texts : EmptyPlacesKeepTexts
empty_places_keep_texts g kept m wired covers known k part stands numbered group is_part =
    ap (is_among kept) (text_before g m wired covers k part stands group is_part)
    ∙ known k part stands numbered group (part_before g m wired covers k part stands group is_part)
