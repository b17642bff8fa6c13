-- The body of a plan's parts: the machine that starts so is ready, and the texts of the graph's groups are those of its last build.
use Rattle.std.proofs.Common.{◌≡◌, ℕ, zero, suc, ◌<◌, true, inl, inr, List, [], ◌∷◌, ◌++◌, length, map, get_or, replicate, All, Some, None, Result, Ok, Err, IfOk, Vec, Global, refl, sym, subst, ◌∙◌, ap, arith, length-append}
use Rattle.std.specs.Prelude.{◌↔◌, not, Contains, Option, zip, slice_get, slice_index}
use Rattle.std.specs.List.{AllZip}
use Rattle.std.specs.Option.{option_and_then}
use Rattle.std.specs.declared.rc.Rc.{Rc}
use Rattle.std.proofs.lemmas.List.{map-append, length-replicate}
use Rattle.std.proofs.lemmas.List.Elements.{All-nil, All-append, All-filter, Contains-get_or}
use Rattle.std.proofs.lemmas.Option.{same_Some, none-some, slice_get_within, get_or_from_slice_get, slice_get-get_or}
use Rattle.std.proofs.lemmas.Slice.Zip.{AllZip-long}
use Rattle.ternary.specs.declared.memory.NoMemory.{NoMemory}
use Rattle.ternary.specs.declared.tern.Tern.{Tern}
use Rattle.switch_paths.specs.Graphs.{GraphData, IsWired, nodes}
use Rattle.group_meaning.specs.Groups.{Group, IsGroup}
use Rattle.channel_groups.specs.Grouping.{GroupsData}
use Rattle.group_text.specs.Texts.{GroupTextData}
use Rattle.straight_code.specs.Code.{CodeData}
use Rattle.straight_code.specs.declared.part.Part.{Part}
use Rattle.straight_code.specs.Parts as straight
use Rattle.circuit_texts.specs.Parts as made
use Rattle.circuit_texts.specs.Told.{has_text, with_text, without_text}
use Rattle.circuit_texts.specs.Reading.{AreReads}
use Rattle.circuit_texts.proofs.PairedLists.{partner_first}
use Rattle.circuit_texts.proofs.PartLemmas.{IsPart-from_group}
use Rattle.kept_parts.specs.Uses.{UsesData, texts_used}
use Rattle.kept_parts.specs.Coded.{AreCoded}
use Rattle.machine_parts.specs.declared.part.MachinePart.{MachinePart}
use Rattle.machine_parts.specs.Parts.{AreApart, IsStale}
use Rattle.machine_parts.specs.Marking.{IsMarked}
use Rattle.machine_parts.specs.Making.{held, IsFormed}
use Rattle.machine_parts.proofs.MakingLemmas.{formed_parts, reads_inside}
use Rattle.part_steps.specs.Dense.{HaveCodes}
use Rattle.machine_laws.specs.Beginnings.{AreInOrder, HasLast}
use Rattle.machine_laws.specs.Fitting.{AreUntold}
use Rattle.machine_laws.specs.Finishing.{IsFresh, Loosens}
use Rattle.machine_laws.proofs.HeldLemmas.{known_or_not}
use Rattle.machine_laws.proofs.StayingParts.{at-Stands, part_here}
use Rattle.machine_laws.specs.Holding.{IsReady}
use Rattle.machine_laws.specs.Seating.{IsStalePartOf}
use Rattle.machine_laws.proofs.LastTextsGroups.{HasLast-order}
use Rattle.machine_laws.proofs.RenewingLemmas.{members_inside, members_once}
use Rattle.unit_step.specs.declared.planning.Plan.{Plan}
use Rattle.unit_step.specs.declared.body.Body.{Body}
use Rattle.unit_step.specs.Bodies.{started, of_body, IsCodedAt}
use Rattle.unit_step.specs.Planning.{IsPlan}
use Rattle.unit_step.specs.LastTexts.{texts_of_last}
use Rattle.unit_step.proofs.BuildLemmas.{append_cases, fresh_parts, lists_inside, numbers_counted, apart_started, some_started, untold_coded, IsReady-started}
use Rattle.unit_step.proofs.FinishingReadied.{fresh-loosened, formed-loosened, below-loosened}

-- of so many marks that are all set each is
all_set : (n k : ℕ) → IsMarked (replicate n true) k → k < n
all_set zero k marked = absurd cc
all_set (suc n) zero marked = omega arith
all_set (suc n) (suc k) marked = omega (arith, all_set n k marked)

set_all : (n k : ℕ) → k < n → IsMarked (replicate n true) k
set_all zero k inside = absurd (omega (arith, inside))
set_all (suc n) zero inside = refl
set_all (suc n) (suc k) inside = set_all n k (omega (arith, inside))

-- where all parts wait but those with code, the stale ones do
pub waits_coded : (parts : List MachinePart) (coded : List ℕ) (n : ℕ) → n ≡ length parts → All (λ (part : MachinePart). 0 < part.members) parts →
    ((k : ℕ) → Contains coded k ↔ IsCodedAt parts k) → (k : ℕ) → (IsMarked (replicate n true) k × (¬ Contains coded k)) ↔ IsStale parts k
waits_coded parts coded n long some are k = (to, back)
  where
    to : IsMarked (replicate n true) k × (¬ Contains coded k) → IsStale parts k
    to (marked, other) =
        let inside : k < length parts = omega (arith, all_set n k marked, long) in
        let (part, stands) = part_here parts k inside in
        elim (known_or_not part.code) [
          | inl (code, is) ↦
              absurd (other ((are k).1 (record { part = part; there = at-Stands parts k part stands; coded = λ none. absurd (cc (none, is)) })))
          | inr none ↦
              let has : 0 < part.members = subst (λ (one : MachinePart). 0 < one.members) stands.here (some k part inside) in
              record { part = part; stands = stands; some = has; none = none }
        ]

    back : IsStale parts k → IsMarked (replicate n true) k × (¬ Contains coded k)
    back stale = (
      set_all n k (omega (arith, stale.stands.inside, long)),
      λ there.
          let has = (are k).0 there in
          let both : Some has.part ≡ Some stale.part = sym has.there ∙ at-Stands parts k stale.part stale.stands in
          let same : has.part ≡ stale.part = cc in
          has.coded (ap (λ (one : MachinePart). one.code) same ∙ stale.none),
    )

-- the part that is held under a number has the code of the part with this number
held_code : (parts : List Part) (reads : List (Vec ℕ Global)) (k : ℕ) (one : MachinePart) → slice_get (map held (zip parts reads)) k ≡ Some one →
    (part : Part) × (slice_get parts k ≡ Some part) × (one.code ≡ Some part.code)
held_code [] reads k one at = absurd (none-some one at)
held_code (part ∷ parts) [] k one at = absurd (none-some one at)
held_code (part ∷ parts) (nodes ∷ reads) zero one at =
    (part, refl, sym (ap (λ (p : MachinePart). p.code) (same_Some (held (part, nodes)) one at)))
held_code (part ∷ parts) (nodes ∷ reads) (suc k) one at = held_code parts reads k one at

pub HaveCodes-held : (numbers : List (Option ℕ)) (parts : List Part) (reads : List (Vec ℕ Global)) → AreCoded numbers parts →
    HaveCodes numbers (map held (zip parts reads))
HaveCodes-held numbers parts reads are = record {
  codes = are.codes;
  each = λ k n part code number_is part_is has.
      let (one, there, is) = held_code parts reads k part part_is in
      let same : one.code ≡ code = same_Some one.code code (sym is ∙ has) in
      are.each k n one number_is there ∙ ap (λ (shared : Rc CodeData Global). Some shared.value) same;
}

-- so it is if some have no code any more
HaveCodes-loosened : (numbers : List (Option ℕ)) (old now : List MachinePart) → Loosens old now → HaveCodes numbers old → HaveCodes numbers now
HaveCodes-loosened numbers old now loosens have = record {
  codes = have.codes;
  each = λ k n part code number_is part_is has.
      let inside : k < length old = omega (arith, slice_get_within now k part part_is, loosens.count) in
      let was_at = slice_get-get_or old k part inside in
      elim (loosens.each k (get_or old k part) part was_at part_is) [
        | inl same ↦ have.each k n (get_or old k part) code number_is was_at (ap (λ (one : MachinePart). one.code) (sym same) ∙ has)
        | inr loosened ↦ absurd (cc (loosened.code, has))
      ];
}

-- and so with stale parts behind, which have no number
HaveCodes-behind : (numbers : List (Option ℕ)) (n : ℕ) (front behind : List MachinePart) → length front ≡ length numbers →
    All (λ (part : MachinePart). part.code ≡ None) behind → HaveCodes numbers front → HaveCodes (numbers ++ replicate n None) (front ++ behind)
HaveCodes-behind numbers n front behind long stale have = record {
  codes = have.codes;
  each = λ k m part code number_is part_is has.
      elim (append_cases front behind k part part_is) [
        | inl at ↦
            have.each k m part code
            (front_number numbers (replicate n None) k (Some m) (omega (arith, slice_get_within front k part at, long)) number_is) at has
        | inr (j, place, at) ↦
            let none = subst (λ (one : MachinePart). one.code ≡ None) (get_or_from_slice_get behind j part part at) (stale j part (slice_get_within behind j part at)) in
            let both : None ≡ Some code = sym none ∙ has in
            absurd cc
      ];
}
  where
    front_number : (xs ys : List (Option ℕ)) (k : ℕ) (x : Option ℕ) → k < length xs → slice_get (xs ++ ys) k ≡ Some x → slice_get xs k ≡ Some x
    front_number [] ys k x inside at = absurd (omega (arith, inside))
    front_number (y ∷ xs) ys zero x inside at = at
    front_number (y ∷ xs) ys (suc k) x inside at = front_number xs ys k x (omega (arith, inside)) at

-- numbers with none behind them are those of texts with none behind them
used_behind : (known : List GroupTextData) (numbers : List (Option ℕ)) (n : ℕ) →
    texts_used (record { known = known; numbers = numbers ++ replicate n None }) ≡ texts_used (record { known = known; numbers = numbers }) ++ replicate n None
used_behind known numbers n =
    map-append (option_and_then (slice_get known)) numbers (replicate n None) ∙ ap (λ rest. map (option_and_then (slice_get known)) numbers ++ rest) (none n)
  where
    none : (n : ℕ) → map (option_and_then (slice_get known)) (replicate n None) ≡ replicate n None
    none zero = refl
    none (suc n) = ap (λ rest. None ∷ rest) (none n)

-- the part of a group without a text is formed
stale_formed : (g : GraphData) (groups : List Group) → All (IsGroup g) groups → (parts : List MachinePart) →
    AllZip (λ group part. IsStalePartOf group.members part) groups parts → All (IsFormed (nodes g)) parts
stale_formed g groups each parts stale k d inside =
    let part = get_or parts k d in
    let at : slice_get parts k ≡ Some part = slice_get-get_or parts k d inside in
    let (group, group_at, is) = partner_first (λ group part. IsStalePartOf group.members part) groups parts k part stale at in
    let is_group : IsGroup g group = subst (IsGroup g) (get_or_from_slice_get groups k group group group_at) (each k group (slice_get_within groups k group group_at)) in
    record {
      below = subst (All (λ node. node < nodes g)) (sym is.map) (members_inside g group is_group);
      members = omega (arith, is.members, ap length is.map);
      apart = subst (λ list. (i j : ℕ) → i < length list → j < length list → slice_index list i ≡ slice_index list j → i ≡ j) (sym is.map) (members_once g group is_group);
      inputs = λ code has. absurd (none_coded part code is.code has);
      outputs = λ code has. absurd (none_coded part code is.code has);
    }
  where
    none_coded : (part : MachinePart) (code : Rc CodeData Global) → part.code ≡ None → part.code ≡ Some code → ⊥
    none_coded part code none has =
        let both : None ≡ Some code = sym none ∙ has in
        absurd cc

-- the parts with codes have numbers
pub codes_counted : (large : ℕ) (g : GraphData) (plan : Plan) (is_plan : IsPlan large g plan.state.items plan) (parts : List Part) →
    AllZip (made.IsPartOf g) (with_text plan.groups.groups) parts → length (map held (zip parts plan.reads.items)) ≡ length plan.uses.numbers
codes_counted large g plan is_plan parts of =
    let told_groups = with_text plan.groups.groups in
    let each_told : All (IsGroup g) told_groups = All-filter has_text (IsGroup g) plan.groups.groups is_plan.are.are.each in
    AllZip-long (IsFresh g) told_groups (map held (zip parts plan.reads.items)) (fresh_parts g told_groups each_told parts plan.reads.items of is_plan.reads)
    ∙ sym (numbers_counted large g plan.state.items plan is_plan)

module _ (large : ℕ) (g : GraphData) (wired : IsWired g) (plan : Plan) (is_plan : IsPlan large g plan.state.items plan) (parts : List Part)
    (of : AllZip (made.IsPartOf g) (with_text plan.groups.groups) parts) (behind : List MachinePart)
    (stale : AllZip (λ group part. IsStalePartOf group.members part) (without_text plan.groups.groups) behind) (front : List MachinePart)
    (loosens : Loosens (map held (zip parts plan.reads.items)) front) where
  abbrev told_groups : List Group
  told_groups = with_text plan.groups.groups

  abbrev with_codes : List MachinePart
  with_codes = map held (zip parts plan.reads.items)

  each_told : All (IsGroup g) told_groups
  each_told = All-filter has_text (IsGroup g) plan.groups.groups is_plan.are.are.each

  each_large : All (IsGroup g) (without_text plan.groups.groups)
  each_large = All-filter (λ group. not (has_text group)) (IsGroup g) plan.groups.groups is_plan.are.are.each

  front_fresh : AllZip (IsFresh g) told_groups front
  front_fresh = fresh-loosened g told_groups with_codes front loosens (fresh_parts g told_groups each_told parts plan.reads.items of is_plan.reads)

  is_stale : (k : ℕ) (d : MachinePart) → k < length behind → (members : List ℕ) × IsStalePartOf members (get_or behind k d)
  is_stale k d inside =
      let (group, at, is) = partner_first (λ group part. IsStalePartOf group.members part) (without_text plan.groups.groups) behind k (get_or behind k d) stale
      (slice_get-get_or behind k d inside) in
      (group.members, is)

  reads_counted : length plan.reads.items ≡ length parts
  reads_counted =
      AllZip-long (λ group list. AreReads g group list.items) told_groups plan.reads.items is_plan.reads ∙ sym (AllZip-long (made.IsPartOf g) told_groups parts of)

  front_counted : length front ≡ length plan.uses.numbers
  front_counted =
      AllZip-long (IsFresh g) told_groups front front_fresh ∙ sym (numbers_counted large g plan.state.items plan is_plan)

  -- the parts fit the graph
  pub formed_planned : All (IsFormed (nodes g)) (front ++ behind)
  formed_planned =
      let fits : All (straight.IsPart (nodes g)) parts = λ k d inside.
      let part = get_or parts k d in
      let (group, at, is) = partner_first (made.IsPartOf g) told_groups parts k part of (slice_get-get_or parts k d inside) in
      let is_group : IsGroup g group = subst (IsGroup g) (get_or_from_slice_get told_groups k group group at) (each_told k group (slice_get_within told_groups k group at)) in
      IsPart-from_group g wired group is_group part is in
      All-append (IsFormed (nodes g)) front behind
      (formed-loosened (nodes g) with_codes front loosens (formed_parts (nodes g) parts plan.reads.items fits))
      (stale_formed g (without_text plan.groups.groups) each_large behind stale)

  pub apart_planned : AreApart (front ++ behind)
  apart_planned = apart_started g plan.groups is_plan.are front behind front_fresh stale

  pub reads_planned : All (λ (part : MachinePart). All (λ node. node < nodes g) part.reads.items) (front ++ behind)
  reads_planned =
      All-append (λ (part : MachinePart). All (λ node. node < nodes g) part.reads.items) front behind
      (below-loosened (nodes g) with_codes front loosens
      (reads_inside (nodes g) parts plan.reads.items (lists_inside g wired told_groups plan.reads.items is_plan.reads)))
      (λ k d inside. subst (All (λ node. node < nodes g)) (sym (is_stale k d inside).1.reads) (All-nil (λ node. node < nodes g)))

  pub coded_planned : AreCoded plan.uses.numbers parts → HaveCodes (plan.uses.numbers ++ replicate (length behind) None) (front ++ behind)
  coded_planned coded =
      HaveCodes-behind plan.uses.numbers (length behind) front behind front_counted (λ k d inside. (is_stale k d inside).1.code)
      (HaveCodes-loosened plan.uses.numbers with_codes front loosens (HaveCodes-held plan.uses.numbers parts plan.reads.items coded))

  pub numbered_planned : length (plan.uses.numbers ++ replicate (length behind) None) ≡ length (front ++ behind)
  numbered_planned =
      omega (
        arith,
        length-append plan.uses.numbers (replicate (length behind) None),
        length-replicate {A = Option ℕ} (length behind) None,
        length-append front behind,
        front_counted,
      )

  pub some_planned : All (λ (part : MachinePart). 0 < part.members) (front ++ behind)
  some_planned = some_started g plan.groups is_plan.are front behind front_fresh stale

  -- if none has lost its code, those that are stale have groups without a text
  pub untold_planned : front ≡ with_codes → AreUntold g (front ++ behind)
  untold_planned same =
      untold_coded g plan.groups is_plan.are front behind front_fresh stale (λ k d inside none.
      let at : slice_get with_codes k ≡ Some (get_or front k d) = ap (λ list. slice_get list k) (sym same) ∙ slice_get-get_or front k d inside in
      let (part, there, is) = held_code parts plan.reads.items k (get_or front k d) at in
      absurd (cc (is, none)))

  -- a machine that starts with them is ready, whatever its last texts were
  pub IsReady-planned : length plan.state.items ≡ nodes g → (uses : UsesData) → uses.known ≡ plan.uses.known →
      uses.numbers ≡ plan.uses.numbers ++ replicate (length behind) None → (last : List GroupTextData) (spare : ℕ) →
      IsReady g (started (Some plan.groups) (front ++ behind) plan.state.items (texts_used uses) last spare)
  IsReady-planned counted uses known_are numbers_are last spare =
      IsReady-started g plan.groups is_plan.are front behind front_fresh stale plan.state.items counted (texts_used uses)
      (ap (λ (one : UsesData). texts_used one) (uses_same uses known_are numbers_are)
      ∙ (used_behind plan.uses.known plan.uses.numbers (length behind) ∙ ap (λ texts. texts ++ replicate (length behind) None) is_plan.texts)) last spare
    where
      uses_same : (uses : UsesData) → uses.known ≡ plan.uses.known → uses.numbers ≡ plan.uses.numbers ++ replicate (length behind) None →
          uses ≡ record { known = plan.uses.known; numbers = plan.uses.numbers ++ replicate (length behind) None }
      uses_same uses known_are numbers_are = λ i. record { known = known_are i; numbers = numbers_are i }

-- the machine that starts with a body of these parts, in this state and with these texts
pub of_body-of : (groups : Option GroupsData) (parts : Vec MachinePart Global) (state : Vec Tern Global) (uses : UsesData) (body : Body) →
    body.groups ≡ groups → body.parts ≡ parts → body.state ≡ state → body.uses ≡ uses → (spare : ℕ) →
    of_body body spare ≡ started groups parts.items state.items (texts_used uses) (texts_of_last uses.known body.last_texts) spare
of_body-of groups parts state uses body groups_are parts_are state_is uses_are spare = λ i.
    started (groups_are i) (parts_are i).items (state_is i).items (texts_used (uses_are i)) (texts_of_last (uses_are i).known body.last_texts) spare

module _ (g : GraphData) (groups : Option GroupsData) (parts : Vec MachinePart Global) (state : Vec Tern Global) (uses : UsesData)
    (ready : (last : List GroupTextData) (spare : ℕ) → IsReady g (started groups parts.items state.items (texts_used uses) last spare)) where
  -- so it is with a body of them
  pub IsReady-of_body : (result : Result Body NoMemory) → IfOk result (λ body. body.groups ≡ groups) → IfOk result (λ body. body.parts ≡ parts) →
      IfOk result (λ body. body.state ≡ state) → IfOk result (λ body. body.uses ≡ uses) →
      IfOk result (λ body. (spare : ℕ) → IsReady g (of_body body spare))
  IsReady-of_body (Ok body) groups_are parts_are state_is uses_are = λ spare.
      subst (IsReady g) (sym (of_body-of groups parts state uses body groups_are parts_are state_is uses_are spare))
      (ready (texts_of_last uses.known body.last_texts) spare)
  IsReady-of_body (Err fault) groups_are parts_are state_is uses_are = tt

  -- and the last texts are those of the groups
  pub HasLast-of_body : (result : Result Body NoMemory) → IfOk result (λ body. body.uses ≡ uses) →
      IfOk result (λ body. AreInOrder parts.items (texts_used uses) (texts_of_last uses.known body.last_texts)) →
      IfOk result (λ body. HasLast g (texts_of_last body.uses.known body.last_texts))
  HasLast-of_body (Ok body) uses_are order =
      let last = texts_of_last uses.known body.last_texts in
      let one = ready last 0 in
      subst (λ (one : UsesData). HasLast g (texts_of_last one.known body.last_texts)) (sym uses_are)
      (HasLast-order g (started groups parts.items state.items (texts_used uses) last 0) one.covers one.told last order)
  HasLast-of_body (Err fault) uses_are order = tt

-- what holds of the parts holds of those of the body
pub AreUntold-of_body : (g : GraphData) (parts : Vec MachinePart Global) (result : Result Body NoMemory) → AreUntold g parts.items →
    IfOk result (λ body. body.parts ≡ parts) → IfOk result (λ body. AreUntold g body.parts.items)
AreUntold-of_body g parts (Ok body) untold parts_are = subst (λ (list : Vec MachinePart Global). AreUntold g list.items) (sym parts_are) untold
AreUntold-of_body g parts (Err fault) untold parts_are = tt

-- the parts that have code are there
pub coded_inside : (parts : List MachinePart) (coded : List ℕ) → ((k : ℕ) → Contains coded k ↔ IsCodedAt parts k) → All (λ k. k < length parts) coded
coded_inside parts coded are i d inside =
    let k = get_or coded i d in
    let has = (are k).0 (Contains-get_or coded i d inside) in
    slice_get_within parts k has.part has.there
