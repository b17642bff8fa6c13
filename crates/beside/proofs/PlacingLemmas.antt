-- A node is placed beside a run.
use Rattle.std.proofs.Common.{◌≡◌, ◌≢◌, ℕ, ◌<◌, Bool, true, false, inl, inr, List, length, replicate, take, sym, ap, subst, ◌∙◌}
use Rattle.std.specs.Prelude.{slice_set}
use Rattle.std.proofs.lemmas.Bool.{cases_eq, cases_lt}
use Rattle.std.proofs.lemmas.List.{get_or-replicate, get_or-set_other, length-set}
use Rattle.ternary.specs.declared.tern.Tern.{Tern}
use Rattle.ternary.specs.declared.tern.Tern.TheVariants.{Zero}
use Rattle.switch_paths.specs.Switching.{state_at}
use Rattle.switch_paths.specs.Graphs.{GraphData, IsWired}
use Rattle.switch_paths.specs.Step.{IsResponse}
use Rattle.group_meaning.specs.Groups.{Group}
use Rattle.group_rest.specs.Rest.{Rests, Responded, ReadsNoChange}
use Rattle.group_rest.proofs.RestingGroups.{unread_group_rests}
use Rattle.machine_parts.specs.declared.part.MachinePart.{MachinePart}
use Rattle.machine_parts.specs.Parts.{Stands}
use Rattle.machine_parts.specs.Marking.{IsMarked}
use Rattle.machine_parts.specs.Stepping.{Concerns}
use Rattle.machine_parts.proofs.CaseLemmas.{something}
use Rattle.wide_groups.specs.Moving.{PlacesIn}
use Rattle.machine_laws.specs.Machines.{MachineData, KeepsBuild, KeepsParts, Places}
use Rattle.machine_laws.specs.Fitting.{IsPartOf, FitsGraph}
use Rattle.machine_laws.proofs.FittingLemmas.{none_rest, same_machine}
use Rattle.machine_laws.proofs.PartGroups.{member_of_part}
use Rattle.machine_laws.proofs.PlacingLemmas.{placing_keeps_fit}
use Rattle.beside.specs.Fitting.{FitsBeside, all_marked}
use Rattle.beside.specs.Laws.{PutsApart, PlacingFitsBeside}

-- the part that a node concerns is there
concerned_inside : (parts : List MachinePart) (k node : ℕ) → Concerns parts k node → k < length parts
concerned_inside parts k node concerns = elim concerns [ inl has ↦ has.stands.inside | inr reads ↦ reads.stands.inside ]

-- a node that is placed is so with all parts marked too
pub placed_marked : (node : ℕ) (value : Tern) (old new : MachineData) → new.state ≡ slice_set old.state node value →
    PlacesIn node old.wide new.wide old.state new.state → KeepsBuild old new → KeepsParts old new → new.moves ≡ old.moves →
    Places node value (all_marked old) (all_marked new)
placed_marked node value old new state wide build held moves =
    let same : replicate (length new.parts) true ≡ replicate (length old.parts) true = ap (λ (parts : List MachinePart). replicate (length parts) true) held.parts in
    record {
      state = state;
      count = ap length same;
      stays = λ k is. subst (λ marks. IsMarked marks k) (sym same) is;
      concerns = λ k concerns.
          subst (λ marks. IsMarked marks k) (sym same) (get_or-replicate (length old.parts) k true false (concerned_inside old.parts k node concerns));
      only = λ k is. inl (subst (λ marks. IsMarked marks k) same is);
      wide = wide;
      build = record { groups = build.groups; last = build.last; spare = build.spare };
      held = record { parts = held.parts; uses = held.uses; texts = held.texts };
      moves = moves;
    }

-- a part that rests does so still if no node that concerns it moves
pub rests_unmoved : (g h : GraphData) (good : List Tern) (apart : List Bool) (old : MachineData) (state : List Tern) → IsWired h →
    FitsBeside g h good apart old → (k : ℕ) (part : MachinePart) → Stands old.parts k part → IsMarked apart k → (¬ IsMarked old.marks k) →
    ((n : ℕ) → Concerns old.parts k n → state_at state n ≡ state_at old.state n) → Rests h state (take part.members part.map.items)
rests_unmoved g h good apart old state wired fits k part stands is before stays =
    elim (cases_lt 0 part.members) [
      | inr none ↦ none_rest h state part.map.items part.members none
      | inl some ↦
          let (group, is_part) = fits.fits.covers.whole k part stands some in
          let rested = subst (Rests h old.state) is_part.members (fits.rests k part stands is before) in
          subst (Rests h state) (sym is_part.members)
          (unread_group_rests h group old.state state wired is_part.is_group (responded group is_part rested) (reads_none some group is_part))
    ]
  where
    responded : (group : Group) → IsPartOf h group part → Rests h old.state group.members → Responded h old.state state group.members
    responded group is_part rests n member =
        let (place, there) = member_of_part h group part is_part n member in
        subst (IsResponse h old.state n) (sym (stays n (inl (record { part = part; stands = stands; place = place; member = there })))) (rests n member)

    reads_none : 0 < part.members → (group : Group) → IsPartOf h group part → ReadsNoChange h group old.state state
    reads_none some group is_part n reads =
        let (code, has) = something part.code (λ none. before (fits.waits k (record { part = part; stands = stands; some = some; none = none }))) in
        stays n (inr (record { part = part; stands = stands; reads = ((is_part.coded code has).reads n).1 reads }))

module _ (g h : GraphData) (good : List Tern) (apart new_apart : List Bool) (node : ℕ) (value bad_value : Tern) (old new : MachineData) (wired : IsWired h)
    (fits : FitsBeside g h good apart old) (places : Places node bad_value old new) (puts : PutsApart old node apart new_apart) where
  -- any other node stays in both runs
  stays_bad : (n : ℕ) → n ≢ node → state_at new.state n ≡ state_at old.state n
  stays_bad n differs = ap (λ states. state_at states n) places.state ∙ get_or-set_other old.state node n bad_value Zero differs

  stays_good : (n : ℕ) → n ≢ node → state_at (slice_set good node value) n ≡ state_at good n
  stays_good n differs = get_or-set_other good node n value Zero differs

  -- a part that isn't marked afterwards has nothing to do with the node
  unconcerned : (k n : ℕ) → (¬ IsMarked new.marks k) → Concerns old.parts k n → n ≢ node
  unconcerned k n unmarked concerns same = unmarked (places.concerns k (subst (Concerns old.parts k) same concerns))

  -- and rests, if it is apart
  part_rests : (k : ℕ) (part : MachinePart) → Stands old.parts k part → IsMarked new_apart k → (¬ IsMarked new.marks k) → Rests h new.state (take part.members part.map.items)
  part_rests k part stands is unmarked =
      elim (puts.only k is) [
        | inr concerns ↦ absurd (unmarked (places.concerns k concerns))
        | inl was ↦
            rests_unmoved g h good apart old new.state wired fits k part stands was (λ marked. unmarked (places.stays k marked))
            (λ n concerns. stays_bad n (unconcerned k n unmarked concerns))
      ]

  -- the machine fits beside the run
  pub placed_beside : FitsGraph h (all_marked new) → FitsBeside g h (slice_set good node value) new_apart
      (record old { marks = new.marks; state = new.state; moves = new.moves; placed = new.placed; wide = new.wide })
  placed_beside all = record {
    fits = subst (λ (m : MachineData). FitsGraph h (all_marked m))
        (sym (same_machine old new places.build.groups places.held.parts places.held.uses places.held.texts places.build.last places.build.spare)) all;
    counted = places.count ∙ fits.counted;
    apart_counted = puts.count ∙ fits.apart_counted;
    good_counted =
        length-set good node value
        ∙ (fits.good_counted ∙ sym (ap length places.state ∙ length-set old.state node bad_value));
    shared = λ k part stands out. fits.shared k part stands (λ is. out (puts.stays k is));
    kept = λ n differs k concerns.
        elim (cases_eq n node) [
          | inl same ↦ puts.set k (subst (Concerns old.parts k) same concerns)
          | inr other ↦ puts.stays k (fits.kept n (λ same. differs (stays_bad n other ∙ (same ∙ sym (stays_good n other)))) k concerns)
        ];
    waits = λ k stale. places.stays k (fits.waits k stale);
    only = λ k marked. elim (places.only k marked) [ inl was ↦ puts.stays k (fits.only k was) | inr concerns ↦ puts.set k concerns ];
    rests = part_rests;
  }

pub placing_fits_beside : PlacingFitsBeside
placing_fits_beside g h good apart new_apart node value bad_value old new wired no_rail fits places puts =
    let all = placing_keeps_fit h node bad_value (all_marked old) (all_marked new) wired no_rail fits.fits
    (placed_marked node bad_value old new places.state places.wide places.build places.held places.moves) in
    subst (FitsBeside g h (slice_set good node value) new_apart)
    (same_machine old new places.build.groups places.held.parts places.held.uses places.held.texts places.build.last places.build.spare)
    (placed_beside g h good apart new_apart node value bad_value old new wired fits places puts all)
