-- The parts of the formulas of a level, and what holds of them in a pool that extends theirs.
use Rattle.std.proofs.Common.{◌≡◌, ℕ, zero, ◌<◌, ◌≤◌, Bool, true, false, List, ◌++◌, length, replicate, sym, ap, ◌∙◌, arith}
use Rattle.std.specs.Prelude.{◌↔◌, All}
use Rattle.std.proofs.lemmas.List.{get_or-replicate}
use Rattle.std.proofs.lemmas.List.Elements.{All-append}
use Rattle.ternary.specs.declared.tern.Tern.{Tern}
use Rattle.switch_paths.specs.Graphs.{GraphData, nodes}
use Rattle.bool_pool.specs.declared.gate.Gate.{Gate}
use Rattle.bool_pool.specs.declared.gate.Id.{Id}
use Rattle.bool_pool.specs.Gate.{Extends}
use Rattle.bool_pool.specs.Value.{value_at}
use Rattle.node_elimination.specs.declared.inputs.Inputs.{Inputs}
use Rattle.node_elimination.specs.declared.descent.Drives.{Drives}
use Rattle.node_elimination.specs.declared.descent.Levels.{Levels}
use Rattle.node_elimination.specs.Growth.{place_of, AreFormulas}
use Rattle.node_elimination.specs.LevelSystem.{value_of, FitLinks, IsConstant}
use Rattle.node_elimination.specs.Analysis.{HasMembers}
use Rattle.node_elimination.specs.Inputs.{input_formulas, HaveInputs, ShowsState}
use Rattle.node_elimination.specs.Descent.{driven_formulas, level_formulas, HaveDriven, ShowsDriven}
use Rattle.node_elimination.proofs.GrowthLemmas.{All-front, All-back, AreFormulas-extends}
use Rattle.node_elimination.proofs.LinkLemmas.{value_of-extends}
use Rattle.node_elimination.proofs.AlongLinks.{place-inside}

-- the parts of the input formulas
module _ (P : Id → Type 0) (inputs : Inputs) (all : All P (input_formulas inputs)) where
  pub all_hi : All P inputs.hi.items
  all_hi = All-front P inputs.hi.items (inputs.lo.items ++ (inputs.closed.items ++ (inputs.live.items ++ inputs.sure.items)))
      all

  after_hi : All P (inputs.lo.items ++ (inputs.closed.items ++ (inputs.live.items ++ inputs.sure.items)))
  after_hi = All-back P inputs.hi.items
      (inputs.lo.items ++ (inputs.closed.items ++ (inputs.live.items ++ inputs.sure.items))) all

  pub all_lo : All P inputs.lo.items
  all_lo = All-front P inputs.lo.items (inputs.closed.items ++ (inputs.live.items ++ inputs.sure.items)) after_hi

  after_lo : All P (inputs.closed.items ++ (inputs.live.items ++ inputs.sure.items))
  after_lo = All-back P inputs.lo.items (inputs.closed.items ++ (inputs.live.items ++ inputs.sure.items)) after_hi

  pub all_closed : All P inputs.closed.items
  all_closed = All-front P inputs.closed.items (inputs.live.items ++ inputs.sure.items) after_lo

  after_closed : All P (inputs.live.items ++ inputs.sure.items)
  after_closed = All-back P inputs.closed.items (inputs.live.items ++ inputs.sure.items) after_lo

  pub all_live : All P inputs.live.items
  all_live = All-front P inputs.live.items inputs.sure.items after_closed

  pub all_sure : All P inputs.sure.items
  all_sure = All-back P inputs.live.items inputs.sure.items after_closed

-- the parts of the formulas of U
module _ (P : Id → Type 0) (drives : Drives) (all : All P (driven_formulas drives)) where
  pub all_one : All P drives.one.items
  all_one = All-front P drives.one.items drives.zero.items all

  pub all_zero : All P drives.zero.items
  all_zero = All-back P drives.one.items drives.zero.items all

-- and of a level
module _ (P : Id → Type 0) (levels : Levels) (all : All P (level_formulas levels)) where
  pub all_strong : All P levels.strong.items
  all_strong = All-front P levels.strong.items (driven_formulas levels.drives) all

  pub all_drives : All P (driven_formulas levels.drives)
  all_drives = All-back P levels.strong.items (driven_formulas levels.drives) all

-- the formulas of a level from its parts
pub all_levels : (P : Id → Type 0) (levels : Levels) → All P levels.strong.items → All P levels.drives.one.items →
    All P levels.drives.zero.items → All P (level_formulas levels)
all_levels P levels of_strong of_one of_zero =
    All-append P levels.strong.items (driven_formulas levels.drives) of_strong
    (All-append P levels.drives.one.items levels.drives.zero.items of_one of_zero)

-- gates, passes and sources that are formulas of the pool fit
pub FitLinks-of : (g : GraphData) (members : ℕ) (pool : List Gate) (gates passes sources : List Id) → HasMembers g members →
    members ≤ length gates →
    length g.places ≤ length passes → nodes g ≤ length sources → AreFormulas pool gates → AreFormulas pool passes →
    AreFormulas pool sources →
    FitLinks g members pool gates passes sources
FitLinks-of g members pool gates passes sources parts each_gate each_pass each_source of_gates of_passes of_sources =
    let P : Id → Type 0 = λ id. id.place < length pool in
    record {
      within = parts.text.members;
      each_gate = each_gate;
      each_pass = each_pass;
      each_source = each_source;
      formulas = All-append P gates (passes ++ sources) of_gates (All-append P passes sources of_passes of_sources);
    }

-- under these variables the inputs tell the state in a pool that extends theirs too
pub ShowsState-extends : (g : GraphData) (before after : List Gate) (inputs : Inputs) (state : List Tern) (vars : ℕ → Bool) →
    Extends before after →
    HaveInputs g before inputs → ShowsState g before inputs state vars → ShowsState g after inputs state vars
ShowsState-extends g before after inputs state vars extends have shows =
    let P : Id → Type 0 = λ id. id.place < length before in
    let d : Id = record { place = 0 } in
    record {
      hi = λ node below.
          value_of-extends before after inputs.hi.items vars node extends
          (all_hi P inputs have.formulas node d (omega (arith, have.each_hi)))
          ∙ shows.hi node below;
      lo = λ node below.
          value_of-extends before after inputs.lo.items vars node extends
          (all_lo P inputs have.formulas node d (omega (arith, have.each_lo)))
          ∙ shows.lo node below;
      closed = λ place switch stands.
          let inside : place < length g.places = place-inside g place switch stands in
          value_of-extends before after inputs.closed.items vars place extends
          (all_closed P inputs have.formulas place d (omega (arith, have.each_closed)))
          ∙ shows.closed place switch stands;
      live = λ place switch stands.
          let inside : place < length g.places = place-inside g place switch stands in
          value_of-extends before after inputs.live.items vars place extends
          (all_live P inputs have.formulas place d (omega (arith, have.each_live)))
          ∙ shows.live place switch stands;
    }

-- and the inputs are formulas of it
pub HaveInputs-extends : (g : GraphData) (before after : List Gate) (inputs : Inputs) → Extends before after →
    IsConstant false after inputs.falsehood →
    IsConstant true after inputs.truth → HaveInputs g before inputs → HaveInputs g after inputs
HaveInputs-extends g before after inputs extends falsehood truth have = record {
  falsehood = falsehood;
  truth = truth;
  each_hi = have.each_hi;
  each_lo = have.each_lo;
  each_closed = have.each_closed;
  each_live = have.each_live;
  each_sure = have.each_sure;
  formulas = AreFormulas-extends before after (input_formulas inputs) extends have.formulas;
}

-- the value of each of a list of equal formulas
pub replicate-value : (pool : List Gate) (ids : List Id) (count : ℕ) (id : Id) (vars : ℕ → Bool) (k : ℕ) →
    ids ≡ replicate count id → k < count →
    value_of pool ids vars k ≡ value_at pool vars id.place
replicate-value pool ids count id vars k same below =
    ap (value_at pool vars) (ap (λ (xs : List Id). place_of xs k) same ∙ ap (λ x. x.place)
    (get_or-replicate count k id (record { place = 0 }) below))

-- what is sure is true
pub sure-true : (g : GraphData) (pool : List Gate) (inputs : Inputs) (vars : ℕ → Bool) (k : ℕ) → k < nodes g →
    IsConstant true pool inputs.truth →
    inputs.sure.items ≡ replicate (nodes g) inputs.truth → value_of pool inputs.sure.items vars k ≡ true
sure-true g pool inputs vars k below truth sure =
    replicate-value pool inputs.sure.items (nodes g) inputs.truth vars k sure below ∙ truth.value_is vars

-- a value stays when gates are added
pub shown-extends : (before after : List Gate) (ids : List Id) (vars : ℕ → Bool) (i : ℕ) (Q : Type 0) →
    Extends before after → AreFormulas before ids →
    i < length ids → ((value_of before ids vars i ≡ true) ↔ Q) → (value_of after ids vars i ≡ true) ↔ Q
shown-extends before after ids vars i Q extends formulas inside shown =
    let same : value_of after ids vars i ≡ value_of before ids vars i =
    value_of-extends before after ids vars i extends (formulas i (record { place = 0 }) inside) in
    ((λ set. shown.0 (sym same ∙ set)), (λ q. same ∙ shown.1 q))

-- U stays when gates are added
pub HaveDriven-extends : (members : ℕ) (before after : List Gate) (drives : Drives) → Extends before after →
    HaveDriven members before drives → HaveDriven members after drives
HaveDriven-extends members before after drives extends have = record {
  each_one = have.each_one;
  each_zero = have.each_zero;
  formulas = AreFormulas-extends before after (driven_formulas drives) extends have.formulas;
}

pub ShowsDriven-extends : (g : GraphData) (members : ℕ) (before after : List Gate) (drives : Drives) (s : ℕ)
    (state : List Tern)
    (vars : ℕ → Bool) → Extends before after → HaveDriven members before drives →
    ShowsDriven g members before drives s state vars → ShowsDriven g members after drives s state vars
ShowsDriven-extends g members before after drives s state vars extends have shown =
    let P : Id → Type 0 = λ id. id.place < length before in
    record {
      one = λ i inside.
          shown-extends before after drives.one.items vars i _ extends (all_one P drives have.formulas)
          (omega (arith, have.each_one))
          (shown.one i inside);
      zero = λ i inside.
          shown-extends before after drives.zero.items vars i _ extends (all_zero P drives have.formulas)
          (omega (arith, have.each_zero))
          (shown.zero i inside);
    }
