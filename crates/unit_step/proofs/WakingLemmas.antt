-- If no part waits, or if no group is due, each part that waits is that of a group that is stepped by vicinities already: nothing is woken, and
-- nothing is analysed.
use Rattle.std.proofs.Common.{◌≡◌, ◌<◌, ℕ, false, true, inl, inr, List, [], ◌∷◌, length, filter, get_or, Some, None, refl, sym, ap, subst, ◌∙◌, arith, append-nil}
use Rattle.std.specs.Prelude.{Contains, not, slice_get}
use Rattle.std.proofs.lemmas.Bool.{cases_Bool}
use Rattle.std.proofs.lemmas.List.Elements.{All-nil}
use Rattle.std.proofs.lemmas.Option.{slice_get_read, slice_get-get_or, get_or_from_slice_get}
use Rattle.switch_paths.specs.Graphs.{GraphData}
use Rattle.switch_paths.specs.Rails.{IsRailed, IsSound}
use Rattle.group_meaning.specs.Groups.{Group, id_of}
use Rattle.group_meaning.proofs.UniqueGroups.{unique}
use Rattle.group_text.specs.Texts.{GroupTextData}
use Rattle.circuit_texts.specs.declared.sizes.GroupSizes.{GroupSizes}
use Rattle.circuit_texts.specs.Sizes.{fault_in, NoneRefused}
use Rattle.circuit_texts.specs.Told.{has_text, with_text, without_text}
use Rattle.circuit_texts.specs.Choosing.{chosen}
use Rattle.circuit_texts.specs.Building.{Fills}
use Rattle.circuit_texts.proofs.SizeLemmas.{fits_any}
use Rattle.kept_parts.specs.Uses.{count_distinct}
use Rattle.wide_groups.specs.Staying.{HoldsNode}
use Rattle.machine_parts.specs.declared.part.MachinePart.{MachinePart}
use Rattle.machine_parts.specs.Parts.{Stands, IsStale}
use Rattle.machine_laws.specs.Machines.{MachineData, groups_in}
use Rattle.machine_laws.specs.Fitting.{IsPartOf, Covers, AreTold, AreUntold, IsKeptBy}
use Rattle.machine_laws.specs.Editing.{MakesReady, StaysKnown}
use Rattle.machine_laws.specs.Columns.{HasNoTexts}
use Rattle.machine_laws.specs.Finishing.{HasText, AreWaiting}
use Rattle.machine_laws.proofs.FilterLemmas.{filter_keeps}
use Rattle.machine_laws.proofs.HeldLemmas.{known_or_not}
use Rattle.machine_laws.proofs.KeptLemmas.{group_there}
use Rattle.machine_laws.proofs.PartGroups.{some_members}
use Rattle.machine_laws.proofs.FinishingWaiting.{text_there, first_is}
use Rattle.machine_laws.proofs.FinishingBuilds.{waiting_texts}
use Rattle.unit_step.specs.Holding.{IsPassed, HoldsAll, wide_after}
use Rattle.unit_step.specs.declared.waking.Risen.{Risen}
use Rattle.unit_step.specs.Waking.{AreDue, HaveCode, IsRisen, Wakes}
use Rattle.unit_step.proofs.DueLemmas.{passed_told}
use Rattle.unit_step.proofs.FinishingFits.{IsReady-covered}
use Rattle.unit_step.proofs.FinishingOrder.{MakesReady-next}
use Rattle.unit_step.proofs.HoldingLemmas.{same_group, StaysKnown-next}

-- no item passes the test that none passes
none_pass : {X : Type 0} (xs : List X) → [] ≡ filter (λ (_ : X). false) xs
none_pass [] = refl
none_pass (x ∷ xs) = none_pass xs

not_in : {X : Type 0} (x : X) → ¬ Contains [] x
not_in x there = absurd (omega (arith, there.1))

-- each part that waits is that of a group that is passed over
abbrev pub ArePassed : GraphData → MachineData → ℕ → Type 0
ArePassed g m large = (k : ℕ) (part : MachinePart) (group : Group) → Stands m.parts k part → part.code ≡ None → IsPartOf g group part →
    IsPassed large m.wide (id_of group)

module _ (g : GraphData) (m : MachineData) (covers : Covers g m) (large : ℕ) (none : (k : ℕ) → ¬ IsStale m.parts k) where
  stale_part : (k : ℕ) (part : MachinePart) (group : Group) → Stands m.parts k part → part.code ≡ None → IsPartOf g group part → IsStale m.parts k
  stale_part k part group stands stale is_part = record { part = part; stands = stands; some = some_members is_part; none = stale }

  -- if no part waits, that is so of each
  pub none_passed : ArePassed g m large
  none_passed k part group stands stale is_part = absurd (none k (stale_part k part group stands stale is_part))

  -- and each group has a text, so none is refused
  pub few_coded : NoneRefused large g
  few_coded groups are i group at =
      let all = covers.groups.groups in
      let here : slice_get all i ≡ Some group = subst (λ list. slice_get list i ≡ Some group) (sym (unique g all groups covers.are.are are)) at in
      let has = covers.each i group here in
      elim (known_or_not has.part.code) [
        | inr lacks ↦ absurd (none has.k (stale_part has.k has.part group has.stands lacks has.is_part))
        | inl (code, is) ↦
            let numbered = covers.numbered has.k has.part has.stands (some_members has.is_part) (λ lacks. absurd (cc (lacks, is))) in
            fits_any large group (covers.known has.k has.part has.stands numbered group has.is_part).fits
      ]

module _ (g : GraphData) (m : MachineData) (large : ℕ) (sizes : GroupSizes) (are_due : AreDue g m large sizes)
    (told : sizes.told.items ≡ []) (without : sizes.large.items ≡ []) where
  abbrev all_groups : List Group
  all_groups = groups_in m.groups

  abbrev due_groups : List Group
  due_groups = filter are_due.due all_groups

  -- no group is due
  not_due : (group : Group) → Contains all_groups group → ¬ (are_due.due group ≡ true)
  not_due group there waits =
      let passes = filter_keeps are_due.due all_groups group there waits in
      let no_told : with_text due_groups ≡ [] = sym are_due.told ∙ ap (chosen all_groups) told in
      let no_large : without_text due_groups ≡ [] = sym are_due.without ∙ ap (chosen all_groups) without in
      elim (cases_Bool (has_text group)) [
        | inl has ↦ not_in group (subst (λ groups. Contains groups group) no_told (filter_keeps has_text due_groups group passes has))
        | inr lacks ↦
            not_in group (subst (λ groups. Contains groups group) no_large
            (filter_keeps (λ one. not (has_text one)) due_groups group passes (ap not lacks)))
      ]

  -- so each part that waits is that of a group that is passed over
  pub all_passed : ArePassed g m large
  all_passed k part group stands stale is_part =
      elim (are_due.all k part group stands stale is_part) [
        | inr passed ↦ passed
        | inl waits ↦
            let (n, inside, at) = group_there g all_groups are_due.are group is_part.is_group in
            absurd (not_due group (n, inside, get_or_from_slice_get all_groups n group group at) waits)
      ]

module _ (g : GraphData) (m : MachineData) (covers : Covers g m) (large : ℕ) (passed : ArePassed g m large) where
  -- then all are held as before
  pub all_held : HoldsAll m.parts m.wide []
  all_held k goes =
      let stale = goes.stale in
      let (group, is_part) = covers.whole k stale.part stale.stands stale.some in
      subst (HoldsNode m.wide) (sym (first_is g m.parts k stale.part stale.stands group is_part))
      (passed k stale.part group stale.stands stale.none is_part).1

  have_texts : AreTold g m
  have_texts k part group stands stale is_part fits =
      passed_told g m covers large k part group stands stale is_part (passed k part group stands stale is_part) fits

  -- and nothing is woken
  pub Wakes-none : m.texts ≡ count_distinct m.uses → Wakes g [] m m
  Wakes-none texts = record {
    ready = IsReady-covered g m covers have_texts texts;
    last = refl;
    wide = refl;
    stale = λ k. (λ stale. record { stale = stale; other = not_in k }, λ goes. goes.stale);
    members = λ k node. (λ has. has, λ has. has);
    still = record {
      groups = refl;
      parts = λ k part stands coded. stands;
      marks = refl;
      state = refl;
      moves = refl;
      placed = refl;
    };
  }

  -- no group waits
  AreWaiting-none : AreWaiting g m.parts m.uses covers.groups.groups [] []
  AreWaiting-none = record {
    waits = λ group. false;
    some_are = none_pass covers.groups.groups;
    others = has_one;
    slots_are = tt;
    all = λ k part group stands stale is_part fits. inr (have_texts k part group stands stale is_part fits);
    once = λ i j before inside. absurd (omega (arith, inside));
  }
    where
      has_one : (group : Group) → Contains covers.groups.groups group → false ≡ false → fault_in group ≡ None → HasText g m.parts m.uses group
      has_one group there waits fits =
          text_there g m covers group there (λ k part stands none is_part. have_texts k part group stands none is_part fits)

  -- so nothing is analysed
  pub Fills-none : NoneRefused large g → (kept : List GroupTextData) → IsKeptBy g kept m → (before : List GroupTextData) →
      Fills large g kept kept before before 0
  Fills-none few kept known before = record {
    fresh = [];
    news = waiting_texts g m covers covers.groups.groups [] [] covers.are.are AreWaiting-none (All-nil (λ group. fault_in group ≡ None)) large
        (λ i d inside. few covers.groups.groups covers.are.are i (get_or covers.groups.groups i d) (slice_get-get_or covers.groups.groups i d inside)) kept known [] refl;
    kept = sym (append-nil kept);
    analysed = sym (append-nil before);
    number = refl;
  }

  -- the machine is ready once only the bound was lowered
  pub MakesReady-none : m.texts ≡ count_distinct m.uses → NoneRefused large g → IsRailed g → IsSound m.state → (new : MachineData) →
      new ≡ record m { wide = wide_after large m.wide None } → MakesReady g m new
  MakesReady-none texts few railed sound new is = MakesReady-next large g m m new [] None covers (Wakes-none texts) few railed sound all_held is

  -- and what is known of the groups that are stepped by vicinities stays
  pub StaysKnown-none : m.texts ≡ count_distinct m.uses → (new : MachineData) → new ≡ record m { wide = wide_after large m.wide None } → StaysKnown large m new
  StaysKnown-none texts new is = StaysKnown-next g m m [] covers (Wakes-none texts) large None new all_held is

-- where all get their codes that are due, and no stale part had a text, only the groups without a text are stale
pub woken_untold : (g : GraphData) (old mid : MachineData) (risen : Risen) → Covers g old → IsRisen g old risen → Wakes g risen.coded.items old mid →
    HaveCode risen.parts.items → HasNoTexts old → AreUntold g mid.parts
woken_untold g old mid risen covers is wakes have none k part group stands stale is_part fits =
    let slots = risen.slots.items in
    let fresh = risen.parts.items in
    let goes = (wakes.stale k).0 (record { part = part; stands = stands; some = some_members is_part; none = stale }) in
    let was = goes.stale in
    let (one, was_part) = covers.whole k was.part was.stands was.some in
    let same : one ≡ group = same_group g old mid risen.coded.items covers wakes k was.part part one group was.stands stands was_part is_part in
    let before : IsPartOf g group was.part = subst (λ (it : Group). IsPartOf g it was.part) same was_part in
    elim (is.waiting.all k was.part group was.stands was.none before fits) [
      | inr numbered ↦ numbered (none k was)
      | inl (i, inside, here) ↦
          let slot : slice_get slots i ≡ Some k = slice_get_read slots (length slots) i k refl inside (sym here) in
          let within : i < length fresh = omega (arith, inside, is.made.counted) in
          let now = get_or fresh i part in
          let there : slice_get fresh i ≡ Some now = slice_get-get_or fresh i part within in
          goes.other ((is.coded k).1 (record { i = i; slot = slot; part = now; there = there; coded = have i now there }))
    ]
