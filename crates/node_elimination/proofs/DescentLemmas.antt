-- From one level down to the next. In the growth of U the pools are p0 at first, p1 with the negations, p2 with U for "may
-- be 1", and p3 with U for "may be 0".
use Rattle.std.proofs.Common.{◌≡◌, ℕ, zero, suc, ◌+◌, ◌*◌, ◌<◌, ◌≤◌, ◌⊎◌, Bool, true, false, not, ◌&&◌, ◌==◌, eq-eqb, inl, inr, List, [], ◌++◌, length, replicate, Some, refl, sym, ap, ◌∙◌, subst, true≢false, append_assoc, arith}
use Rattle.std.specs.Prelude.{◌↔◌, All}
use Rattle.std.proofs.lemmas.Bool.{leb-true, le-leb, eqb-true}
use Rattle.std.proofs.lemmas.List.{length-append, length-replicate}
use Rattle.std.proofs.lemmas.Nat.{mul-le}
use Rattle.std.proofs.lemmas.List.Elements.{All-append, All-replicate}
use Rattle.ternary.specs.declared.tern.Tern.{Tern}
use Rattle.ternary.specs.Tern.{may_one, may_zero}
use Rattle.strength_order.specs.declared.TheConstants.{INPUT_LEVEL}
use Rattle.switch_paths.specs.declared.switching.Switch.{Switch}
use Rattle.switch_paths.specs.Switching.{is_closed, is_live, state_at, switch_state_at}
use Rattle.switch_paths.specs.Graphs.{GraphData, IsWired, nodes, level_of, place_at}
use Rattle.bool_pool.specs.declared.gate.Gate.{Gate}
use Rattle.bool_pool.specs.declared.gate.Id.{Id}
use Rattle.bool_pool.specs.Gate.{Extends}
use Rattle.bool_pool.specs.Reach.{IsWithin}
use Rattle.node_elimination.specs.declared.inputs.Inputs.{Inputs}
use Rattle.node_elimination.specs.declared.descent.Drives.{Drives}
use Rattle.node_elimination.specs.declared.descent.Levels.{Levels}
use Rattle.node_elimination.specs.Growth.{AreFormulas, AreWithin, AreGrown, Grows}
use Rattle.node_elimination.specs.Levels.{Reached, IsClear, Driven, IsUnused}
use Rattle.node_elimination.specs.LevelSystem.{value_of, IsConstant, reached_base, driven_base, SolvesLevel}
use Rattle.node_elimination.specs.Analysis.{HasMembers}
use Rattle.node_elimination.specs.Inputs.{input_formulas}
use Rattle.node_elimination.specs.Descent.{driven_formulas, level_formulas, HaveLevels, ShowsRail, ShowsDriven, ShowsLevel}
use Rattle.node_elimination.proofs.SolutionLemmas.{or_either, or_first, or_second, and_both, both_parts}
use Rattle.node_elimination.proofs.GrowthLemmas.{All-front, All-back, AreWithin-moved}
use Rattle.node_elimination.proofs.LevelLemmas.{never_reached, never_driven, reached_down, driven_down, reached_up, driven_up}
use Rattle.node_elimination.proofs.LevelSystemLemmas.{definite_level, unblocked_level}
use Rattle.node_elimination.proofs.LevelParts.{all_hi, all_lo, all_closed, all_live, all_sure, all_one, all_zero, all_strong, all_drives, all_levels, replicate-value}

module _ (g : GraphData) (wired : IsWired g) (members : ℕ) (parts : HasMembers g members) (state : List Tern)
    (vars : ℕ → Bool) (s : ℕ) (low : 1 ≤ s) (high : s ≤ INPUT_LEVEL) where
  -- the answers of the one system are D(s)
  pub strong_shown : (pool after : List Gate) (passes sure answers : List Id) →
      ((place : ℕ) (switch : Switch) → place_at g.places place ≡ Some switch →
      value_of pool passes vars place ≡ is_closed (switch_state_at state switch)) →
      ((k : ℕ) → k < nodes g → value_of pool sure vars k ≡ true) →
      SolvesLevel g members (value_of pool passes vars) (reached_base g s) (value_of pool sure vars)
      (value_of pool sure vars) s (value_of after answers vars) →
      (i : ℕ) → i < members → (value_of after answers vars i ≡ true) ↔ Reached g state s i
  strong_shown pool after passes sure answers closed all_true solves =
      definite_level g wired members parts state s low high (value_of pool passes vars) (reached_base g s)
      (value_of pool sure vars)
      (value_of pool sure vars) (value_of after answers vars) solves closed
      (λ i inside. ((λ set. leb-true s (level_of g i) set), (λ most. le-leb s (level_of g i) most)))
      (λ i inside. all_true i (omega (arith, parts.text.members))) (λ m other. all_true m other.1)

  module _ (rail : Tern → Bool) (pool after : List Gate) (above clear passes sources answers : List Id)
      (cleared : (i : ℕ) → i < members → (value_of pool clear vars i ≡ true) ↔ IsClear g state s i)
      (driven : (i : ℕ) → i < members → (value_of pool above vars i ≡ true) ↔ Driven rail g state (s + 1) i)
      (shown : (node : ℕ) → node < nodes g → value_of pool sources vars node ≡ rail (state_at state node)) where
    -- the base of the system is U(s + 1), or a clear root of level s that has the rail
    base_forth : (i : ℕ) → i < members →
        driven_base g s (value_of pool above vars) (value_of pool clear vars) (value_of pool sources vars) i ≡ true →
        Driven rail g state (s + 1) i ⊎ (IsClear g state s i × (level_of g i ≡ s) × (rail (state_at state i) ≡ true))
    base_forth i inside set =
        elim (or_either (value_of pool above vars i)
        ((level_of g i == s) && (value_of pool clear vars i && value_of pool sources vars i)) set) [
          | inl from_above ↦ inl ((driven i inside).0 from_above)
          | inr own_root ↦
              let first = both_parts (level_of g i == s) (value_of pool clear vars i && value_of pool sources vars i)
              own_root in
              let next = both_parts (value_of pool clear vars i) (value_of pool sources vars i) first.1 in
              inr (
                (cleared i inside).0 next.0,
                eqb-true (level_of g i) s first.0,
                sym (shown i (omega (arith, parts.text.members))) ∙ next.1,
              )
        ]

    base_back : (i : ℕ) → i < members →
        (Driven rail g state (s + 1) i ⊎ (IsClear g state s i × (level_of g i ≡ s) × (rail (state_at state i) ≡ true))) →
        driven_base g s (value_of pool above vars) (value_of pool clear vars) (value_of pool sources vars) i ≡ true
    base_back i inside (inl from_above) =
        or_first (value_of pool above vars i)
        ((level_of g i == s) && (value_of pool clear vars i && value_of pool sources vars i))
        ((driven i inside).1 from_above)
    base_back i inside (inr own_root) =
        or_second (value_of pool above vars i)
        ((level_of g i == s) && (value_of pool clear vars i && value_of pool sources vars i))
        (and_both (level_of g i == s) (value_of pool clear vars i && value_of pool sources vars i)
        (eq-eqb (level_of g i) s own_root.1)
        (and_both (value_of pool clear vars i) (value_of pool sources vars i) ((cleared i inside).1 own_root.0)
        (shown i (omega (arith, parts.text.members)) ∙ own_root.2)))

    -- the answers of the other systems are U(s) for a rail
    pub driven_shown :
        ((place : ℕ) (switch : Switch) → place_at g.places place ≡ Some switch →
        value_of pool passes vars place ≡ is_live (switch_state_at state switch)) →
        SolvesLevel g members (value_of pool passes vars)
        (driven_base g s (value_of pool above vars) (value_of pool clear vars) (value_of pool sources vars))
        (value_of pool clear vars) (value_of pool sources vars) s (value_of after answers vars) →
        (i : ℕ) → i < members → (value_of after answers vars i ≡ true) ↔ Driven rail g state s i
    driven_shown live solves =
        unblocked_level g wired members parts state s low high (value_of pool passes vars)
        (driven_base g s (value_of pool above vars) (value_of pool clear vars) (value_of pool sources vars))
        (value_of pool clear vars)
        (value_of pool sources vars) (value_of after answers vars) solves rail live
        (λ i inside. (base_forth i inside, base_back i inside)) cleared
        (λ m other. shown m other.1)

-- a negation of D(s + 1) is clear(s)
pub clear_shown : (g : GraphData) (state : List Tern) (s i : ℕ) (strong clear : Bool) → clear ≡ not strong →
    ((strong ≡ true) ↔ Reached g state (s + 1) i) → (clear ≡ true) ↔ IsClear g state s i
clear_shown g state s i true clear is shown =
    ((λ set. absurd (true≢false (sym set ∙ is))), (λ free. absurd (free (shown.0 refl))))
clear_shown g state s i false clear is shown = ((λ set reached. true≢false (sym (shown.1 reached))), (λ free. is))

-- what U of the next level reaches more
pub Grows-drives : (inputs : Inputs) (above : Levels) (next : Drives) (p0 p1 p2 p3 : List Gate) (clear : List Id)
    (t1 t2 t3 total : ℕ) → Extends p0 p1 → Extends p1 p2 → Extends p2 p3 → Grows p0 above.strong.items p1 clear t1 →
    Grows p1 (above.drives.one.items ++ (clear ++ (inputs.live.items ++ inputs.hi.items))) p2 next.one.items t2 →
    Grows p2 (above.drives.zero.items ++ (clear ++ (inputs.live.items ++ inputs.lo.items))) p3 next.zero.items t3 →
    t1 + t2 + t3 ≤ total → Grows p0 (input_formulas inputs ++ level_formulas above) p3 (driven_formulas next) total
Grows-drives inputs above next p0 p1 p2 p3 clear t1 t2 t3 total e1 e2 e3 g1 g2 g3 sum = record { grown = grown }
  where
    joined : (a b c d : List ℕ) → (a ++ (b ++ c)) ++ d ≡ a ++ (b ++ (c ++ d))
    joined a b c d = simp append_assoc

    -- what a rail is solved from
    all_held : (P : Id → Type 0) (drives rails : List Id) → All P drives → All P clear → All P inputs.live.items → All P rails →
        All P (drives ++ (clear ++ (inputs.live.items ++ rails)))
    all_held P drives rails of_drives of_clear of_live of_rails =
        All-append P drives (clear ++ (inputs.live.items ++ rails)) of_drives
        (All-append P clear (inputs.live.items ++ rails) of_clear (All-append P inputs.live.items rails of_live of_rails))

    grown : (listed : List ℕ) (bound : ℕ) → AreWithin p0 listed bound (input_formulas inputs ++ level_formulas above) →
        AreGrown p3 listed bound total (driven_formulas next)
    grown listed bound within =
        let P0 : Id → Type 0 = λ id. IsWithin p0 listed bound id.place in
        let inputs0 : AreWithin p0 listed bound (input_formulas inputs) =
        All-front P0 (input_formulas inputs) (level_formulas above) within in
        let above0 : AreWithin p0 listed bound (level_formulas above) =
        All-back P0 (input_formulas inputs) (level_formulas above) within in
        let drives0 : AreWithin p0 listed bound (driven_formulas above.drives) = all_drives P0 above above0 in
        let m1 : AreGrown p1 listed bound t1 clear = g1.grown listed bound (all_strong P0 above above0) in
        let l1 : List ℕ = m1.more ++ listed in
        let P1 : Id → Type 0 = λ id. IsWithin p1 l1 bound id.place in
        let inputs1 = AreWithin-moved p0 p1 m1.more listed bound (input_formulas inputs) e1 inputs0 in
        let drives1 = AreWithin-moved p0 p1 m1.more listed bound (driven_formulas above.drives) e1 drives0 in
        let m2 : AreGrown p2 l1 bound t2 next.one.items =
        g2.grown l1 bound
        (all_held P1 above.drives.one.items inputs.hi.items (all_one P1 above.drives drives1) m1.within (all_live P1 inputs inputs1)
        (all_hi P1 inputs inputs1)) in
        let l2 : List ℕ = m2.more ++ l1 in
        let P2 : Id → Type 0 = λ id. IsWithin p2 l2 bound id.place in
        let inputs2 = AreWithin-moved p1 p2 m2.more l1 bound (input_formulas inputs) e2 inputs1 in
        let drives2 = AreWithin-moved p1 p2 m2.more l1 bound (driven_formulas above.drives) e2 drives1 in
        let clear2 : AreWithin p2 l2 bound clear = AreWithin-moved p1 p2 m2.more l1 bound clear e2 m1.within in
        let m3 : AreGrown p3 l2 bound t3 next.zero.items =
        g3.grown l2 bound
        (all_held P2 above.drives.zero.items inputs.lo.items (all_zero P2 above.drives drives2) clear2 (all_live P2 inputs inputs2)
        (all_lo P2 inputs inputs2)) in
        let l3 : List ℕ = m3.more ++ l2 in
        let one3 : AreWithin p3 l3 bound next.one.items =
        AreWithin-moved p2 p3 m3.more l2 bound next.one.items e3 m2.within in
        record {
          more = m3.more ++ (m2.more ++ m1.more);
          few = omega (
            arith,
            m1.few,
            m2.few,
            m3.few,
            length-append m3.more (m2.more ++ m1.more),
            length-append m2.more m1.more,
          );
          within = rw (joined m3.more m2.more m1.more listed)
              (All-append (λ id. IsWithin p3 l3 bound id.place) next.one.items next.zero.items one3 m3.within);
        }

-- what D of a level reaches more
pub Grows-strong : (inputs : Inputs) (before after : List Gate) (strong : List Id) (count : ℕ) →
    Grows before (inputs.sure.items ++ (inputs.closed.items ++ inputs.sure.items)) after strong count →
    Grows before (input_formulas inputs) after strong count
Grows-strong inputs before after strong count grows = record {
  grown = λ listed bound within.
      let P : Id → Type 0 = λ id. IsWithin before listed bound id.place in
      grows.grown listed bound
      (All-append P inputs.sure.items (inputs.closed.items ++ inputs.sure.items) (all_sure P inputs within)
      (All-append P inputs.closed.items inputs.sure.items (all_closed P inputs within) (all_sure P inputs within)));
}

-- what a whole level reaches more: first U, then D
pub Grows-next : (inputs : Inputs) (above next : Levels) (p0 p1 p2 : List Gate) (m n total : ℕ) → Extends p0 p1 →
    Extends p1 p2 →
    Grows p0 (input_formulas inputs ++ level_formulas above) p1 (driven_formulas next.drives) m →
    Grows p1 (input_formulas inputs) p2 next.strong.items n → m + n ≤ total →
    Grows p0 (input_formulas inputs ++ level_formulas above) p2 (level_formulas next) total
Grows-next inputs above next p0 p1 p2 m n total e1 e2 g1 g2 sum = record { grown = grown }
  where
    grown : (listed : List ℕ) (bound : ℕ) → AreWithin p0 listed bound (input_formulas inputs ++ level_formulas above) →
        AreGrown p2 listed bound total (level_formulas next)
    grown listed bound within =
        let P0 : Id → Type 0 = λ id. IsWithin p0 listed bound id.place in
        let one : AreGrown p1 listed bound m (driven_formulas next.drives) = g1.grown listed bound within in
        let l1 : List ℕ = one.more ++ listed in
        let held : AreWithin p1 l1 bound (input_formulas inputs) =
        AreWithin-moved p0 p1 one.more listed bound (input_formulas inputs) e1
        (All-front P0 (input_formulas inputs) (level_formulas above) within) in
        let two : AreGrown p2 l1 bound n next.strong.items = g2.grown l1 bound held in
        let l2 : List ℕ = two.more ++ l1 in
        let drives : AreWithin p2 l2 bound (driven_formulas next.drives) =
        AreWithin-moved p1 p2 two.more l1 bound (driven_formulas next.drives) e2 one.within in
        record {
          more = two.more ++ one.more;
          few = omega (arith, one.few, two.few, length-append two.more one.more);
          within = rw append_assoc
              (All-append (λ id. IsWithin p2 l2 bound id.place) next.strong.items (driven_formulas next.drives) two.within
              drives);
        }

-- above the level of an input node nothing is reached and nothing is driven
module _ (g : GraphData) (wired : IsWired g) (members : ℕ) (pool : List Gate) (levels : Levels) (falsehood : Id)
    (constant : IsConstant false pool falsehood) (same_strong : levels.strong.items ≡ replicate members falsehood)
    (same_one : levels.drives.one.items ≡ replicate members falsehood)
    (same_zero : levels.drives.zero.items ≡ replicate members falsehood) where
  none_shown : (ids : List Id) → ids ≡ replicate members falsehood → (vars : ℕ → Bool) (Q : Type 0) → (Q → ⊥) → (i : ℕ) →
      i < members →
      (value_of pool ids vars i ≡ true) ↔ Q
  none_shown ids same vars Q never i inside = (
    (λ set. absurd (true≢false (sym set ∙ replicate-value pool ids members falsehood vars i same inside
        ∙ constant.value_is vars))),
    (λ q. absurd (never q)),
  )

  pub ShowsLevel-start : (state : List Tern) (vars : ℕ → Bool) →
      ShowsLevel g members pool levels (INPUT_LEVEL + 1) state vars
  ShowsLevel-start state vars =
      let above : ℕ = INPUT_LEVEL + 1 in
      let undriven : (rail : Tern → Bool) (i : ℕ) → Driven rail g state above i → ⊥ =
      λ rail i. never_driven g wired state rail above i (omega arith) in
      record {
        strong = λ i. none_shown levels.strong.items same_strong vars _ (never_reached g wired state above i (omega arith))
            i;
        drives = record {
          one = λ i. none_shown levels.drives.one.items same_one vars _ (undriven may_one i) i;
          zero = λ i. none_shown levels.drives.zero.items same_zero vars _ (undriven may_zero i) i;
        };
      }

  -- whatever holds of that formula holds of all of this level
  start_all : (P : Id → Type 0) → P falsehood → All P (level_formulas levels)
  start_all P here =
      all_levels P levels (rw same_strong (All-replicate P members falsehood here))
      (rw same_one (All-replicate P members falsehood here))
      (rw same_zero (All-replicate P members falsehood here))

  pub HaveLevels-start : HaveLevels members pool levels
  HaveLevels-start =
      let all : AreFormulas pool (level_formulas levels) = start_all (λ id. id.place < length pool) constant.inside in
      record {
        each_strong = ap length same_strong ∙ length-replicate members falsehood;
        formulas = all_strong (λ id. id.place < length pool) levels all;
        drives = record {
          each_one = ap length same_one ∙ length-replicate members falsehood;
          each_zero = ap length same_zero ∙ length-replicate members falsehood;
          formulas = all_drives (λ id. id.place < length pool) levels all;
        };
      }

  pub Grows-start : (ids : List Id) (count : ℕ) → Grows pool ids pool (ids ++ level_formulas levels) count
  Grows-start ids count = record {
    grown = λ listed bound within. record {
      more = [];
      few = omega arith;
      within = All-append (λ id. IsWithin pool listed bound id.place) ids (level_formulas levels) within
          (start_all (λ id. IsWithin pool listed bound id.place) (constant.within listed bound));
    };
  }

-- if nothing has a level, the formulas of the level above serve
ShowsRail-unused : (rail : Tern → Bool) (g : GraphData) (members : ℕ) (pool : List Gate) (ids : List Id) (s : ℕ)
    (state : List Tern) (vars : ℕ → Bool) → IsUnused g s → ShowsRail rail g members pool ids (s + 1) state vars →
    ShowsRail rail g members pool ids s state vars
ShowsRail-unused rail g members pool ids s state vars unused shown = λ i inside. (
  (λ set. driven_down rail g state s i ((shown i inside).0 set)),
  (λ driven. (shown i inside).1 (driven_up g state s unused rail s i refl driven)),
)

pub ShowsDriven-unused : (g : GraphData) (members : ℕ) (pool : List Gate) (drives : Drives) (s : ℕ) (state : List Tern)
    (vars : ℕ → Bool) → IsUnused g s → ShowsDriven g members pool drives (s + 1) state vars →
    ShowsDriven g members pool drives s state vars
ShowsDriven-unused g members pool drives s state vars unused shown = record {
  one = ShowsRail-unused may_one g members pool drives.one.items s state vars unused shown.one;
  zero = ShowsRail-unused may_zero g members pool drives.zero.items s state vars unused shown.zero;
}

pub ShowsLevel-unused : (g : GraphData) (members : ℕ) (pool : List Gate) (levels : Levels) (s : ℕ) (state : List Tern)
    (vars : ℕ → Bool) → IsUnused g s → ShowsLevel g members pool levels (s + 1) state vars →
    ShowsLevel g members pool levels s state vars
ShowsLevel-unused g members pool levels s state vars unused shown = record {
  strong = λ i inside. (
    (λ set. reached_down g state s i ((shown.strong i inside).0 set)),
    (λ reached. (shown.strong i inside).1 (reached_up g state s unused i reached)),
  );
  drives = ShowsDriven-unused g members pool levels.drives s state vars unused shown.drives;
}

-- if nothing has a lower level, U of a level is U of the least one
pub ShowsDriven-least : (g : GraphData) (members : ℕ) (pool : List Gate) (drives : Drives) (count s : ℕ) (state : List Tern)
    (vars : ℕ → Bool) → s ≡ count + 1 → ((t : ℕ) → 1 ≤ t → t < s → IsUnused g t) →
    ShowsDriven g members pool drives s state vars → ShowsDriven g members pool drives 1 state vars
ShowsDriven-least g members pool drives zero s state vars is unused shown =
    let last : s ≡ 1 = omega arith in
    subst (λ t. ShowsDriven g members pool drives t state vars) last shown
ShowsDriven-least g members pool drives (suc count) s state vars is unused shown =
    let above : s ≡ (count + 1) + 1 = omega arith in
    ShowsDriven-least g members pool drives count (count + 1) state vars refl
    (λ t low below. unused t low (omega arith))
    (ShowsDriven-unused g members pool drives (count + 1) state vars (unused (count + 1) (omega arith) (omega arith))
    (subst (λ t. ShowsDriven g members pool drives t state vars) above shown))

-- they reach nothing more
pub Grows-unused : (pool : List Gate) (ids : List Id) (levels : Levels) (count : ℕ) →
    Grows pool (ids ++ level_formulas levels) pool (level_formulas levels) count
Grows-unused pool ids levels count = record {
  grown = λ listed bound within. record {
    more = [];
    few = omega arith;
    within = All-back (λ id. IsWithin pool listed bound id.place) ids (level_formulas levels) within;
  };
}

-- all that is held once one more level is made
pub Grows-down : (ids : List Id) (above next : Levels) (a b c : List Gate) (m n count : ℕ) → Extends b c →
    Grows a ids b (ids ++ level_formulas above) m →
    Grows b (ids ++ level_formulas above) c (level_formulas next) n → m + n ≤ count →
    Grows a ids c (ids ++ level_formulas next) count
Grows-down ids above next a b c m n count extends first second sum = record { grown = grown }
  where
    grown : (listed : List ℕ) (bound : ℕ) → AreWithin a listed bound ids →
        AreGrown c listed bound count (ids ++ level_formulas next)
    grown listed bound within =
        let one : AreGrown b listed bound m (ids ++ level_formulas above) = first.grown listed bound within in
        let two : AreGrown c (one.more ++ listed) bound n (level_formulas next) =
        second.grown (one.more ++ listed) bound one.within in
        let held : AreWithin c (two.more ++ (one.more ++ listed)) bound ids =
        AreWithin-moved b c two.more (one.more ++ listed) bound ids extends
        (All-front (λ id. IsWithin b (one.more ++ listed) bound id.place) ids (level_formulas above) one.within) in
        record {
          more = two.more ++ one.more;
          few = omega (arith, one.few, two.few, length-append two.more one.more);
          within = rw append_assoc
              (All-append (λ id. IsWithin c (two.more ++ (one.more ++ listed)) bound id.place) ids (level_formulas next) held
              two.within);
        }

-- the formulas show the same level, by another name of it and of the number of members
pub ShowsLevel-same : (g : GraphData) (m n : ℕ) (pool : List Gate) (levels : Levels) (s t : ℕ) (state : List Tern)
    (vars : ℕ → Bool) → m ≡ n → s ≡ t →
    ShowsLevel g m pool levels s state vars → ShowsLevel g n pool levels t state vars
ShowsLevel-same g m n pool levels s t state vars same_members same_level shown =
    subst (λ k. ShowsLevel g n pool levels k state vars) same_level
    (subst (λ k. ShowsLevel g k pool levels s state vars) same_members shown)

-- the levels so far and the next one
pub costs-more : (start now next done cost : ℕ) → now ≤ start + done * cost → next ≤ now + cost →
    next ≤ start + (done + 1) * cost
costs-more start now next done cost so_far more = omega arith

-- they are no more than all
pub costs-within : (start now next done cost all : ℕ) → done < all → now ≤ start + done * cost → next ≤ now + cost →
    next ≤ start + all * cost
costs-within start now next done cost all below so_far more =
    let most : (done + 1) * cost ≤ all * cost = mul-le (done + 1) cost all cost (omega arith) (omega arith) in
    omega (arith, most, costs-more start now next done cost so_far more)
