-- The groups that are stepped by vicinities after a step, whatever takes it: they rest again but for what is awake, and their members are those of stale parts.
use Rattle.std.proofs.Common.{◌≡◌, ℕ, ◌<◌, Bool, true, false, List, None, refl, sym, subst}
use Rattle.std.specs.Prelude.{Contains, Option, Some, slice_index_or}
use Rattle.ternary.specs.declared.tern.Tern.{Tern}
use Rattle.strength_order.specs.declared.TheConstants.{INPUT_LEVEL}
use Rattle.switch_paths.specs.Switching.{state_at}
use Rattle.switch_paths.specs.Graphs.{GraphData, IsWired, level_of}
use Rattle.switch_paths.specs.Step.{IsResponse, IsStep}
use Rattle.group_meaning.proofs.GroupLemmas.{member_storage}
use Rattle.group_rest.specs.Alike.{IsAlike}
use Rattle.circuit_texts.specs.Sizes.{refused_in}
use Rattle.vicinity.specs.Touching.{IsAwake, RestsAsleep, RespondedAsleep}
use Rattle.vicinity.specs.Wides.{WideData}
use Rattle.wide_groups.specs.Moving.{HasStaleOnly, IsAwakeIn, RetouchesIn}
use Rattle.wide_groups.proofs.WideCases.{retouched}
use Rattle.machine_parts.specs.declared.part.MachinePart.{MachinePart}
use Rattle.machine_parts.specs.Parts.{Stands, HasMember, IsStale}
use Rattle.machine_laws.specs.Machines.{MachineData}
use Rattle.machine_laws.specs.Fitting.{IsHeldIn, FitsGraph}
use Rattle.machine_laws.proofs.HeldLemmas.{response_there, held_rests, held_at}
use Rattle.machine_laws.proofs.PartGroups.{member_of_part}

module _ (g : GraphData) (wired : IsWired g) (old : MachineData) (fits : FitsGraph g old) (joining : Bool) (new : List Tern)
    (plain : joining ≡ false → IsStep g old.state new)
    (inputs : (node : ℕ) → level_of g node ≡ INPUT_LEVEL → state_at new node ≡ state_at old.state node)
    (asleep : (k node : ℕ) → HasMember old.parts k node → IsStale old.parts k → (¬ IsAwakeIn old.wide old.state node) → state_at new node ≡ state_at old.state node)
    (wide : Option WideData) (retouches : RetouchesIn joining old.wide wide old.state new) where
  -- members that are asleep afterwards took their steady states, in this step or before
  responded : (before : WideData) → old.wide ≡ Some before → (k : ℕ) (part : MachinePart) → Stands old.parts k part → IsStale old.parts k →
      (held : IsHeldIn g old.state before (slice_index_or old.uses k None) part) (again : List ℕ) (kind : Bool) → (kind ≡ false → IsStep g old.state new) →
      (kind ≡ true → (node : ℕ) → Contains before.touched.list node → Contains again node) → RespondedAsleep before.graph old.state new held.group.members again
  responded before was k part stands stale held again false step kept node member still =
      let in_range = (member_storage g held.group held.alike.here node member).inside in
      response_there g before.graph held.group old.state wired held.wired held.alike node member (state_at new node) ((step refl).each node in_range)
  responded before was k part stands stale held again true step kept node member still =
      let was_asleep : ¬ IsAwake before.graph old.state before.touched.list node = λ awake. still (awake.0, kept refl awake.0 awake.1, awake.2) in
      let (place, there) = member_of_part g held.group part held.is_part node member in
      let has : HasMember old.parts k node = record { part = part; stands = stands; place = place; member = there } in
      let stays = asleep k node has stale (λ awake. was_asleep (subst (λ w. IsAwakeIn w old.state node) was awake)) in
      subst (IsResponse before.graph old.state node) (sym stays) (held.rests node member was_asleep)

  -- a group that is stepped by vicinities rests again but for what is awake
  pub held_again : (one : WideData) → wide ≡ Some one → (k : ℕ) (part : MachinePart) → Stands old.parts k part → 0 < part.members → part.code ≡ None →
      IsHeldIn g new one (slice_index_or old.uses k None) part
  held_again one is k part stands some none =
      let (before, was, touches) = retouched joining old.wide wide old.state new retouches one is in
      let held = held_at g old fits before was k part stands some none in
      let stale : IsStale old.parts k = record { part = part; stands = stands; some = some; none = none } in
      let group = held.group in
      let same = touches.stays.graph in
      let rests = held_rests g wired before held.wired group held.alike old.state new one.touched.list
      (responded before was k part stands stale held one.touched.list joining plain touches.kept) inputs touches.all in
      record {
        group = group;
        is_part = held.is_part;
        allowed = subst (λ large. refused_in large group ≡ None) (sym touches.stays.large) held.allowed;
        told = held.told;
        wired = subst IsWired (sym same) held.wired;
        alike = subst (λ graph. IsAlike g graph group) (sym same) held.alike;
        rests = subst (λ graph. RestsAsleep graph new group.members one.touched.list) (sym same) rests;
      }

  -- and its members are those of stale parts
  pub stale_only_again : (one : WideData) → wide ≡ Some one → HasStaleOnly old.parts one.graph
  stale_only_again one is =
      let (before, was, touches) = retouched joining old.wide wide old.state new retouches one is in
      subst (HasStaleOnly old.parts) (sym touches.stays.graph) (fits.covers.stale_only before was)
