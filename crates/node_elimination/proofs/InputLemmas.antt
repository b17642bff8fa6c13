-- The formulas that the levels start from, one after the other.
use Rattle.std.proofs.Common.{◌≡◌, ℕ, ◌+◌, ◌*◌, ◌<◌, ◌≤◌, Bool, true, false, not, inl, inr, List, [], ◌∷◌, ◌++◌, length, take, Option, Some, None, if◌then◌else◌, refl, sym, ap, ◌∙◌, subst, append_assoc, arith}
use Rattle.std.specs.Prelude.{All, is_some, count_by, replicate, slice_index_or}
use Rattle.std.proofs.lemmas.Bool.{cases_eq, cases_Bool}
use Rattle.std.proofs.lemmas.List.{length-append, length_push}
use Rattle.std.proofs.lemmas.List.Elements.{All-append, All-push, All-replicate, All-from_get_or}
use Rattle.std.proofs.lemmas.List.Sums.{count_by_more_yes, count_by_more_no, sum_by-take-le}
use Rattle.ternary.specs.declared.tern.Tern.{Tern}
use Rattle.ternary.specs.Tern.{may_one, may_zero}
use Rattle.switch_paths.specs.declared.switching.Switch.{Switch}
use Rattle.switch_paths.specs.Switching.{state_at, state_by}
use Rattle.switch_paths.specs.Spread.{passes}
use Rattle.switch_paths.specs.Graphs.{GraphData, IsWired, nodes, place_at}
use Rattle.switch_paths.proofs.PathLemmas.{switch_fits}
use Rattle.bool_pool.specs.declared.gate.Gate.{Gate}
use Rattle.bool_pool.specs.declared.gate.Id.{Id}
use Rattle.bool_pool.specs.declared.gate.Rails.{Rails}
use Rattle.bool_pool.specs.Gate.{Extends}
use Rattle.bool_pool.specs.Value.{value_at}
use Rattle.bool_pool.specs.Reach.{IsWithin, IsGrown}
use Rattle.bool_pool.specs.Made.{IsMade}
use Rattle.bool_pool.proofs.WithinLemmas.{IsGrown-made, IsGrown-within}
use Rattle.dual_rail.specs.Conduct.{AreInside, AreRailsOf, Tells}
use Rattle.node_elimination.specs.Growth.{place_of, AreFormulas, AreWithin, AreGrown, Grows}
use Rattle.node_elimination.specs.LevelSystem.{value_of, IsConstant}
use Rattle.node_elimination.specs.declared.inputs.Inputs.{Inputs}
use Rattle.group_analysis.specs.Meaning.{switch_count}
use Rattle.node_elimination.specs.Analysis.{IsAssignment}
use Rattle.node_elimination.specs.Inputs.{AreRails, IsPass, ArePasses, input_formulas, HaveInputs, ShowsState}
use Rattle.node_elimination.specs.Descent.{AreNegations}
use Rattle.node_elimination.proofs.GrowthLemmas.{Extends-trans, All-front, All-back, AreFormulas-extends, AreWithin-moved}
use Rattle.node_elimination.proofs.LinkLemmas.{value_of-extends}
use Rattle.node_elimination.proofs.AlongLinks.{place-inside}
use Rattle.node_elimination.proofs.RailLemmas.{place_of-front, place_of-last}

-- the rails of a node are formulas of the pool
pub AreInside-rails : (g : GraphData) (pool : List Gate) (hi lo : List Id) (node : ℕ) → AreFormulas pool (hi ++ lo) →
    nodes g ≤ length hi → nodes g ≤ length lo → node < nodes g →
    AreInside pool (record {
      hi = slice_index_or hi node (record { place = 0 });
      lo = slice_index_or lo node (record { place = 0 });
    })
AreInside-rails g pool hi lo node formulas each_hi each_lo below =
    let P : Id → Type 0 = λ id. id.place < length pool in
    record {
      hi = All-front P hi lo formulas node (record { place = 0 }) (omega arith);
      lo = All-back P hi lo formulas node (record { place = 0 }) (omega arith);
    }

-- what a switch does, from the rails of its gate
pub IsPass-tells : (g : GraphData) (sure : Bool) (before after : List Gate) (hi lo : List Id) (place : ℕ) (switch : Switch)
    (gate : Rails) (p : ℕ) →
    place_at g.places place ≡ Some switch → nodes g ≤ length hi → nodes g ≤ length lo → switch.gate < nodes g →
    gate.hi.place ≡ place_of hi switch.gate → gate.lo.place ≡ place_of lo switch.gate → Extends before after →
    Tells (passes sure) before after switch.kind gate p → IsPass g sure before hi lo place after p
IsPass-tells g sure before after hi lo place switch gate p stands each_hi each_lo in_range is_hi is_lo extends tells =
    record {
      inside = tells.inside;
      value_is = λ other there vars state one zero.
          let same : switch ≡ other = cc in
          let rails : AreRailsOf before vars gate state = record {
            one = ap (value_at before vars) is_hi ∙ ap (λ (w : Switch). value_of before hi vars w.gate) same ∙ one;
            zero = ap (value_at before vars) is_lo ∙ ap (λ (w : Switch). value_of before lo vars w.gate) same ∙ zero;
          } in
          tells.value_is vars state rails ∙ ap (λ (w : Switch). passes sure (state_by w.kind state)) same;
      grown = grown;
    }
  where
    made : IsMade before after (gate.hi.place ∷ gate.lo.place ∷ []) (λ vars. value_at after vars p) p
    made = record { inside = tells.inside; value_is = λ vars. refl; reach = tells.reach }

    grown : (listed : List ℕ) (bound : ℕ) → AreWithin before listed bound (hi ++ lo) →
        IsGrown after listed bound (if is_some (place_at g.places place) then 1 else 0) p
    grown listed bound within =
        let P : Id → Type 0 = λ id. IsWithin before listed bound id.place in
        let in_hi : switch.gate < length hi = omega arith in
        let in_lo : switch.gate < length lo = omega arith in
        let hi_within : IsWithin before listed bound gate.hi.place =
        subst (IsWithin before listed bound) (sym is_hi)
        (All-front P hi lo within switch.gate (record { place = 0 }) in_hi) in
        let lo_within : IsWithin before listed bound gate.lo.place =
        subst (IsWithin before listed bound) (sym is_lo)
        (All-back P hi lo within switch.gate (record { place = 0 }) in_lo) in
        rw stands (IsGrown-made before after listed (gate.hi.place ∷ gate.lo.place ∷ []) (λ vars. value_at after vars p)
        bound p extends made
        (hi_within, (lo_within, tt)))

-- an empty place lets nothing through
pub IsPass-empty : (g : GraphData) (sure : Bool) (gates : List Gate) (hi lo : List Id) (place : ℕ) (falsehood : Id) →
    place_at g.places place ≡ None →
    IsConstant false gates falsehood → IsPass g sure gates hi lo place gates falsehood.place
IsPass-empty g sure gates hi lo place falsehood empty constant = record {
  inside = constant.inside;
  value_is = λ other there vars state one zero. absurd cc;
  grown = λ listed bound within. rw empty (IsGrown-within gates listed bound falsehood.place (constant.within listed bound));
}

-- how many switches there are among the places so far and the next one
count-more : (g : GraphData) (place : ℕ) → place < length g.places →
    count_by is_some (take (place + 1) g.places)
    ≡ count_by is_some (take place g.places) + (if is_some (place_at g.places place) then 1 else 0)
count-more g place inside =
    elim (cases_Bool (is_some (place_at g.places place))) [
      | inl some ↦ rw some (count_by_more_yes is_some g.places place None inside some)
      | inr empty ↦ rw empty (count_by_more_no is_some g.places place None inside empty ∙ omega arith)
    ]

-- what the switch at one place more does
pub ArePasses-push : (g : GraphData) (sure : Bool) (a b c : List Gate) (hi lo : List Id) (count : ℕ) (ids : List Id)
    (id : Id) → count < length g.places →
    AreFormulas a (hi ++ lo) →
    ((switch : Switch) → place_at g.places count ≡ Some switch → (switch.gate < length hi) × (switch.gate < length lo)) →
    Extends a b → Extends b c → ArePasses g sure a hi lo count b ids → IsPass g sure b hi lo count c id.place →
    ArePasses g sure a hi lo (count + 1) c (ids ++ id ∷ [])
ArePasses-push g sure a b c hi lo count ids id inside formulas gates to_b to_c so_far next = record {
  each_one = omega (arith, length_push ids id, so_far.each_one);
  formulas = All-push (λ x. x.place < length c) ids id (AreFormulas-extends b c ids to_c so_far.formulas) next.inside;
  value_is = value_is;
  grows = record { grown = grown };
}
  where
    value_is : (place : ℕ) (switch : Switch) → place < count + 1 → place_at g.places place ≡ Some switch →
        (vars : ℕ → Bool) (state : Tern) →
        value_of a hi vars switch.gate ≡ may_one state → value_of a lo vars switch.gate ≡ may_zero state →
        value_of c (ids ++ id ∷ []) vars place ≡ passes sure (state_by switch.kind state)
    value_is place switch below stands vars state one zero =
        elim (cases_eq place count) [
          | inl same ↦
              let there : place_at g.places count ≡ Some switch = sym (ap (place_at g.places) same) ∙ stands in
              let ends = gates switch there in
              let d : Id = record { place = 0 } in
              let inside_hi : place_of hi switch.gate < length a =
              All-front (λ x. x.place < length a) hi lo formulas switch.gate d ends.0 in
              let inside_lo : place_of lo switch.gate < length a =
              All-back (λ x. x.place < length a) hi lo formulas switch.gate d ends.1 in
              ap (value_at c vars) (ap (place_of (ids ++ id ∷ [])) same ∙ place_of-last ids id count so_far.each_one)
              ∙ next.value_is switch there vars state (value_of-extends a b hi vars switch.gate to_b inside_hi ∙ one)
              (value_of-extends a b lo vars switch.gate to_b inside_lo ∙ zero)
          | inr other ↦
              let before : place < count = omega arith in
              let in_ids : place < length ids = omega (arith, so_far.each_one) in
              ap (value_at c vars) (place_of-front ids id place in_ids)
              ∙ value_of-extends b c ids vars place to_c (so_far.formulas place (record { place = 0 }) in_ids)
              ∙ so_far.value_is place switch before stands vars state one zero
        ]

    grown : (listed : List ℕ) (bound : ℕ) → AreWithin a listed bound (hi ++ lo) →
        AreGrown c listed bound (count_by is_some (take (count + 1) g.places)) (ids ++ id ∷ [])
    grown listed bound within =
        let one : AreGrown b listed bound (count_by is_some (take count g.places)) ids =
        so_far.grows.grown listed bound within in
        let held : AreWithin b (one.more ++ listed) bound (hi ++ lo) =
        AreWithin-moved a b one.more listed bound (hi ++ lo) to_b within in
        let two : IsGrown c (one.more ++ listed) bound (if is_some (place_at g.places count) then 1 else 0) id.place =
        next.grown (one.more ++ listed) bound held in
        let ids_within : AreWithin c (two.more ++ (one.more ++ listed)) bound ids =
        AreWithin-moved b c two.more (one.more ++ listed) bound ids to_c one.within in
        record {
          more = two.more ++ one.more;
          few = omega (arith, one.few, two.few, length-append two.more one.more, count-more g count inside);
          within = rw append_assoc
              (All-push (λ x. IsWithin c (two.more ++ (one.more ++ listed)) bound x.place) ids id ids_within two.within);
        }

-- no place was passed yet
pub ArePasses-none : (g : GraphData) (sure : Bool) (gates : List Gate) (hi lo : List Id) →
    ArePasses g sure gates hi lo 0 gates []
ArePasses-none g sure gates hi lo = record {
  each_one = refl;
  formulas = λ k d inside. absurd (omega arith);
  value_is = λ place switch below stands vars state one zero. absurd (omega arith);
  grows = record {
    grown =
        λ listed bound within. record { more = []; few = omega arith; within = λ k d inside. absurd (omega arith) };
  };
}

-- one negation more
pub AreNegations-push : (a b c : List Gate) (xs : List Id) (count : ℕ) (ids : List Id) (id : Id) → count < length xs →
    AreFormulas a xs → Extends a b →
    Extends b c → AreNegations a xs count b ids →
    IsMade b c (place_of xs count ∷ []) (λ vars. not (value_at b vars (place_of xs count))) id.place →
    AreNegations a xs (count + 1) c (ids ++ id ∷ [])
AreNegations-push a b c xs count ids id inside formulas to_b to_c so_far next = record {
  each_one = omega (arith, length_push ids id, so_far.each_one);
  formulas = All-push (λ x. x.place < length c) ids id (AreFormulas-extends b c ids to_c so_far.formulas) next.inside;
  value_is = λ vars i below.
      elim (cases_eq i count) [
        | inl same ↦
            ap (value_at c vars) (ap (place_of (ids ++ id ∷ [])) same ∙ place_of-last ids id count so_far.each_one)
            ∙ next.value_is vars
            ∙ ap not (value_of-extends a b xs vars count to_b (formulas count (record { place = 0 }) inside))
            ∙ sym (ap (λ k. not (value_of a xs vars k)) same)
        | inr other ↦
            let before : i < count = omega arith in
            let in_ids : i < length ids = omega (arith, so_far.each_one) in
            ap (value_at c vars) (place_of-front ids id i in_ids)
            ∙ value_of-extends b c ids vars i to_c (so_far.formulas i (record { place = 0 }) in_ids)
            ∙ so_far.value_is vars i before
      ];
}

-- what they reach more
pub Grows-negation : (a b c : List Gate) (xs : List Id) (count : ℕ) (ids : List Id) (id : Id) (m n total : ℕ)
    (meaning : (ℕ → Bool) → Bool) →
    count < length xs → Extends a b → Extends b c → Grows a xs b ids m →
    IsMade b c (place_of xs count ∷ []) meaning id.place → 1 ≤ n → m + n ≤ total →
    Grows a xs c (ids ++ id ∷ []) total
Grows-negation a b c xs count ids id m n total meaning inside to_b to_c so_far next one_step sum = record { grown = grown }
  where
    grown : (listed : List ℕ) (bound : ℕ) → AreWithin a listed bound xs → AreGrown c listed bound total (ids ++ id ∷ [])
    grown listed bound within =
        let one : AreGrown b listed bound m ids = so_far.grown listed bound within in
        let held : AreWithin b (one.more ++ listed) bound xs = AreWithin-moved a b one.more listed bound xs to_b within in
        let two : IsGrown c (one.more ++ listed) bound 1 id.place =
        IsGrown-made b c (one.more ++ listed) (place_of xs count ∷ []) meaning bound id.place to_c next
        (held count (record { place = 0 }) inside, tt) in
        let ids_within : AreWithin c (two.more ++ (one.more ++ listed)) bound ids =
        AreWithin-moved b c two.more (one.more ++ listed) bound ids to_c one.within in
        record {
          more = two.more ++ one.more;
          few = omega (arith, one.few, two.few, length-append two.more one.more);
          within = rw append_assoc
              (All-push (λ x. IsWithin c (two.more ++ (one.more ++ listed)) bound x.place) ids id ids_within two.within);
        }

-- how many steps the places so far take, and the next one
pub pass_steps : (g : GraphData) (place : ℕ) → place < length g.places →
    2 * count_by is_some (take (place + 1) g.places)
    ≡ 2 * count_by is_some (take place g.places) + (if is_some (place_at g.places place) then 2 else 0)
pass_steps g place inside =
    elim (cases_Bool (is_some (place_at g.places place))) [
      | inl some ↦ rw some (omega (arith, count_by_more_yes is_some g.places place None inside some))
      | inr empty ↦ rw empty (omega (arith, count_by_more_no is_some g.places place None inside empty))
    ]

-- there are no more switches among the first places than there are in all
pub all_steps : (g : GraphData) (count : ℕ) → count_by is_some (take count g.places) ≤ count_by is_some g.places
all_steps g count = sum_by-take-le (λ (place : Option Switch). if is_some place then 1 else 0) g.places count

-- so the places so far and the next one take no more than all
pub steps_within : (g : GraphData) (place : ℕ) → place < length g.places →
    2 * count_by is_some (take place g.places) + (if is_some (place_at g.places place) then 2 else 0) ≤ 2 * count_by is_some g.places
steps_within g place inside = omega (arith, pass_steps g place inside, all_steps g (place + 1))

-- what holds of the formula of each index holds of all
formulas-each : (P : ℕ → Type 0) (ids : List Id) (count : ℕ) → length ids ≡ count →
    ((k : ℕ) → k < count → P (place_of ids k)) → All (λ id. P id.place) ids
formulas-each P ids count each holds =
    All-from_get_or (λ id. P id.place) ids (record { place = 0 }) (λ k inside. holds k (omega arith))

-- rails are formulas of the pool
pub AreFormulas-rails : (rail : Tern → Bool) (variable : ℕ → ℕ) (constants : List (Option Tern)) (count : ℕ)
    (gates : List Gate) (ids : List Id) →
    AreRails rail variable constants count gates ids → AreFormulas gates ids
AreFormulas-rails rail variable constants count gates ids rails =
    formulas-each (λ p. p < length gates) ids count rails.each_one (λ k below. (rails.rails k below).inside)

-- what was made for the inputs, in the pools of three moments: a when the rails were made, b after the first passes, c after
-- all
module _ (g : GraphData) (wired : IsWired g) (constants : List (Option Tern)) (a b c : List Gate) (inputs : Inputs)
    (to_b : Extends a b) (to_c : Extends b c) (falsehood : IsConstant false c inputs.falsehood)
    (truth : IsConstant true c inputs.truth)
    (hi : AreRails may_one (λ node. 2 * node) constants (nodes g) a inputs.hi.items)
    (lo : AreRails may_zero (λ node. 2 * node + 1) constants (nodes g) a inputs.lo.items)
    (closed : ArePasses g true a inputs.hi.items inputs.lo.items (length g.places) b inputs.closed.items)
    (live : ArePasses g false b inputs.hi.items inputs.lo.items (length g.places) c inputs.live.items)
    (sure : inputs.sure.items ≡ replicate (nodes g) inputs.truth) where
  hi_formulas : AreFormulas a inputs.hi.items
  hi_formulas = AreFormulas-rails may_one (λ node. 2 * node) constants (nodes g) a inputs.hi.items hi

  lo_formulas : AreFormulas a inputs.lo.items
  lo_formulas = AreFormulas-rails may_zero (λ node. 2 * node + 1) constants (nodes g) a inputs.lo.items lo

  pub HaveInputs-made : HaveInputs g c inputs
  HaveInputs-made =
      let P : Id → Type 0 = λ id. id.place < length c in
      let to_end = Extends-trans a b c to_b to_c in
      let sure_formulas : AreFormulas c inputs.sure.items = rw sure (All-replicate P (nodes g) inputs.truth truth.inside) in
      let live_on = All-append P inputs.live.items inputs.sure.items live.formulas sure_formulas in
      let closed_on =
      All-append P inputs.closed.items (inputs.live.items ++ inputs.sure.items)
      (AreFormulas-extends b c inputs.closed.items to_c closed.formulas)
      live_on in
      let lo_on =
      All-append P inputs.lo.items (inputs.closed.items ++ (inputs.live.items ++ inputs.sure.items))
      (AreFormulas-extends a c inputs.lo.items to_end lo_formulas) closed_on in
      record {
        falsehood = falsehood;
        truth = truth;
        formulas = All-append P inputs.hi.items
            (inputs.lo.items ++ (inputs.closed.items ++ (inputs.live.items ++ inputs.sure.items)))
            (AreFormulas-extends a c inputs.hi.items to_end hi_formulas) lo_on;
        each_hi = hi.each_one;
        each_lo = lo.each_one;
        each_closed = closed.each_one;
        each_live = live.each_one;
        each_sure = sure;
      }

  -- under the variables of a state the rails of each node are those of its state
  module _ (state : List Tern) (vars : ℕ → Bool) (assignment : IsAssignment g constants state vars) where
    hi_shown : (node : ℕ) → node < nodes g → value_of a inputs.hi.items vars node ≡ may_one (state_at state node)
    hi_shown node below =
        (hi.rails node below).value_is vars (state_at state node) (λ t is. assignment.given node t is)
        (assignment.variables.one node (omega (arith, assignment.count)))

    lo_shown : (node : ℕ) → node < nodes g → value_of a inputs.lo.items vars node ≡ may_zero (state_at state node)
    lo_shown node below =
        (lo.rails node below).value_is vars (state_at state node) (λ t is. assignment.given node t is)
        (assignment.variables.zero node (omega (arith, assignment.count)))

    -- and still in a pool that extends theirs
    hi_after : (after : List Gate) → Extends a after → (node : ℕ) → node < nodes g →
        value_of after inputs.hi.items vars node ≡ may_one (state_at state node)
    hi_after after extends node below =
        value_of-extends a after inputs.hi.items vars node extends (hi.rails node below).inside ∙ hi_shown node below

    lo_after : (after : List Gate) → Extends a after → (node : ℕ) → node < nodes g →
        value_of after inputs.lo.items vars node ≡ may_zero (state_at state node)
    lo_after after extends node below =
        value_of-extends a after inputs.lo.items vars node extends (lo.rails node below).inside ∙ lo_shown node below

    pub ShowsState-made : ShowsState g c inputs state vars
    ShowsState-made = record {
      hi = hi_after c (Extends-trans a b c to_b to_c);
      lo = lo_after c (Extends-trans a b c to_b to_c);
      closed = λ place switch stands.
          let inside : place < length g.places = place-inside g place switch stands in
          let in_range = (switch_fits g wired place switch stands).gate in
          let in_ids : place < length inputs.closed.items = omega (arith, closed.each_one) in
          value_of-extends b c inputs.closed.items vars place to_c (closed.formulas place (record { place = 0 }) in_ids)
          ∙ closed.value_is place switch inside stands vars (state_at state switch.gate) (hi_shown switch.gate in_range)
          (lo_shown switch.gate in_range);
      live = λ place switch stands.
          let inside : place < length g.places = place-inside g place switch stands in
          let in_range = (switch_fits g wired place switch stands).gate in
          live.value_is place switch inside stands vars (state_at state switch.gate) (hi_after b to_b switch.gate in_range)
          (lo_after b to_b switch.gate in_range);
    }

  -- two places more have to be listed for each switch at most
  pub AreGrown-made : (listed : List ℕ) (bound : ℕ) → 2 * nodes g ≤ bound →
      AreGrown c listed bound (2 * switch_count g) (input_formulas inputs)
  AreGrown-made listed bound enough =
      let A : Id → Type 0 = λ id. IsWithin a listed bound id.place in
      let hi_within : AreWithin a listed bound inputs.hi.items =
      formulas-each (IsWithin a listed bound) inputs.hi.items (nodes g) hi.each_one
      (λ k below. (hi.rails k below).within listed bound (omega arith)) in
      let lo_within : AreWithin a listed bound inputs.lo.items =
      formulas-each (IsWithin a listed bound) inputs.lo.items (nodes g) lo.each_one
      (λ k below. (lo.rails k below).within listed bound (omega arith)) in
      let rails_within : AreWithin a listed bound (inputs.hi.items ++ inputs.lo.items) =
      All-append A inputs.hi.items inputs.lo.items hi_within lo_within in
      let one : AreGrown b listed bound (count_by is_some (take (length g.places) g.places)) inputs.closed.items =
      closed.grows.grown listed bound rails_within in
      let rails_b : AreWithin b (one.more ++ listed) bound (inputs.hi.items ++ inputs.lo.items) =
      AreWithin-moved a b one.more listed bound (inputs.hi.items ++ inputs.lo.items) to_b rails_within in
      let two : AreGrown c (one.more ++ listed) bound (count_by is_some (take (length g.places) g.places))
      inputs.live.items =
      live.grows.grown (one.more ++ listed) bound rails_b in
      let all : List ℕ = two.more ++ (one.more ++ listed) in
      let C : Id → Type 0 = λ id. IsWithin c all bound id.place in
      let rails_c : AreWithin c all bound (inputs.hi.items ++ inputs.lo.items) =
      AreWithin-moved b c two.more (one.more ++ listed) bound (inputs.hi.items ++ inputs.lo.items) to_c rails_b in
      let closed_c : AreWithin c all bound inputs.closed.items =
      AreWithin-moved b c two.more (one.more ++ listed) bound inputs.closed.items to_c one.within in
      let sure_c : AreWithin c all bound inputs.sure.items =
      rw sure (All-replicate C (nodes g) inputs.truth (truth.within all bound)) in
      let live_on : AreWithin c all bound (inputs.live.items ++ inputs.sure.items) =
      All-append C inputs.live.items inputs.sure.items two.within sure_c in
      let closed_on : AreWithin c all bound (inputs.closed.items ++ (inputs.live.items ++ inputs.sure.items)) =
      All-append C inputs.closed.items (inputs.live.items ++ inputs.sure.items) closed_c live_on in
      let lo_on : AreWithin c all bound
      (inputs.lo.items ++ (inputs.closed.items ++ (inputs.live.items ++ inputs.sure.items))) =
      All-append C inputs.lo.items (inputs.closed.items ++ (inputs.live.items ++ inputs.sure.items))
      (All-back C inputs.hi.items inputs.lo.items rails_c) closed_on in
      record {
        more = two.more ++ one.more;
        few = omega (arith, one.few, two.few, length-append two.more one.more, all_steps g (length g.places));
        within = rw append_assoc
            (All-append C inputs.hi.items
            (inputs.lo.items ++ (inputs.closed.items ++ (inputs.live.items ++ inputs.sure.items)))
            (All-front C inputs.hi.items inputs.lo.items rails_c) lo_on);
      }
