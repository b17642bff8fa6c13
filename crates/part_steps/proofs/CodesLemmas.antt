-- Codes at their places, and what parts change that are run together.
use Rattle.std.proofs.Common.{◌≡◌, ℕ, ◌+◌, ◌*◌, ◌<◌, ◌≤◌, Bool, inl, inr, List, length, get_or, All, Option, Some, sym, ap, subst, ◌∙◌, arith, Vec, Global}
use Rattle.std.specs.Prelude.{zero, suc, Contains, option_map, unwrap_or, slice_get, vec_capacity}
use Rattle.std.specs.declared.rc.Rc.{Rc}
use Rattle.std.proofs.lemmas.List.Elements.{Contains-get_or}
use Rattle.std.proofs.lemmas.Option.{same_Some, get_or_from_slice_get}
use Rattle.ternary.specs.declared.tern.Tern.{Tern}
use Rattle.straight_code.specs.Code.{CodeData}
use Rattle.part_words.specs.declared.change.Change.{Change}
use Rattle.part_words.specs.Noting.{map_at, IsNotedAt, NotesAll}
use Rattle.part_steps.specs.declared.dense.Seat.{Seat}
use Rattle.part_steps.specs.declared.evaluation.Workspace.{Workspace}
use Rattle.machine_parts.specs.Evaluating.{Rooms}
use Rattle.part_steps.specs.Workspaces.{rooms}
use Rattle.part_steps.specs.Waiting.{Slot, slot_for, Waits, HasRoom, starts_in, code_in, with_seat, cleared_at}
use Rattle.part_steps.specs.Together.{CanRun, RunsSome, TakesIn, outputs_at, instructions_at}
use Rattle.part_steps.proofs.WaitingLemmas.{Waits-in, Waits-seat, Waits-before, Waits-cases, Waits-cleared, Waits-cleared_cases}

-- how long a code is that is there
pub outputs_there : (codes : List (Rc CodeData Global)) (place : ℕ) (code : Rc CodeData Global) → slice_get codes place ≡ Some code →
    outputs_at codes place ≡ length code.value.outputs
outputs_there codes place code there =
    ap (λ (found : Option (Rc CodeData Global)). unwrap_or (option_map (λ (one : Rc CodeData Global). length one.value.outputs) found) 0) there

pub instructions_there : (codes : List (Rc CodeData Global)) (place : ℕ) (code : Rc CodeData Global) → slice_get codes place ≡ Some code →
    instructions_at codes place ≡ length code.value.instructions
instructions_there codes place code there =
    ap (λ (found : Option (Rc CodeData Global)). unwrap_or (option_map (λ (one : Rc CodeData Global). length one.value.instructions) found) 0) there

-- a code as it is read from its place
pub code_read : (codes : List (Rc CodeData Global)) (place read : ℕ) (code found : Rc CodeData Global) (own : CodeData) → read ≡ place →
    slice_get codes place ≡ Some code → found ≡ get_or codes read found → own ≡ found.value → own ≡ code.value
code_read codes place read code found own at there is value =
    let here : slice_get codes read ≡ Some code = ap (slice_get codes) at ∙ there in
    value ∙ ap (λ (one : Rc CodeData Global). one.value) (is ∙ get_or_from_slice_get codes read code found here)

-- what each of some costs is at most what all cost
pub one_of_some : (count cost : ℕ) → 0 < count → cost ≤ count * cost
one_of_some zero cost some = absurd (omega (arith, some))
one_of_some (suc count) cost some = omega arith

-- one part more in the list of those that are done is no other room
pub pushed_rooms : (workspace : Workspace) (done : Vec ℕ Global) → vec_capacity done ≡ vec_capacity workspace.done →
    rooms (record workspace { done = done }) ≡ rooms workspace
pushed_rooms workspace done same = λ i. record {
  values = length workspace.values.items;
  changes = vec_capacity workspace.changes;
  parts = same i;
}

-- the code of a slot is there, and each part that waits in the slot can be run with it
pub record RunsTogether (count : ℕ) (room : Rooms) (codes : List (Rc CodeData Global)) (nodes : List ℕ) (place : ℕ) (starts : List ℕ) : Type 0 where
  pub code : Rc CodeData Global
  pub there : slice_get codes place ≡ Some code
  pub inside : All (λ at. at + code.value.inputs ≤ length nodes) starts
  pub below : All (λ at. All (λ node. node < count) (map_at nodes code.value.inputs at)) starts
  pub front : length code.value.outputs ≤ code.value.inputs
  pub value_room : 2 + 2 * code.value.inputs + length code.value.instructions ≤ room.values

-- where each part that waits can be run, those of a slot can be run together
pub RunsTogether-from_all : (count : ℕ) (room : Rooms) (codes : List (Rc CodeData Global)) (nodes : List ℕ) (slots : List Slot) (place : ℕ) →
    place < length slots → ((one : Seat) → Waits slots one → CanRun count room codes nodes one) → 0 < length (starts_in slots place) →
    RunsTogether count room codes nodes (code_in slots place) (starts_in slots place)
RunsTogether-from_all count room codes nodes slots place inside all some =
    let starts = starts_in slots place in
    let seat : ℕ → Seat = λ at. record { code = code_in slots place; at = at } in
    let runs : (at : ℕ) → Contains starts at → CanRun count room codes nodes (seat at) = λ at start. all (seat at) (Waits-in slots place at inside start) in
    let first = runs (get_or starts 0 0) (Contains-get_or starts 0 0 some) in
    let code = first.code in
    let same : (at : ℕ) (start : Contains starts at) → (runs at start).code ≡ code =
    λ at start. same_Some (runs at start).code code (sym (runs at start).there ∙ first.there) in
    record {
      code = code;
      there = first.there;
      inside = λ k d within.
          let at = get_or starts k d in
          let start = Contains-get_or starts k d within in
          subst (λ (one : Rc CodeData Global). at + one.value.inputs ≤ length nodes) (same at start) (runs at start).inside;
      below = λ k d within.
          let at = get_or starts k d in
          let start = Contains-get_or starts k d within in
          subst (λ (one : Rc CodeData Global). All (λ node. node < count) (map_at nodes one.value.inputs at)) (same at start) (runs at start).below;
      front = first.front;
      value_room = first.value_room;
    }

module _ (joining : Bool) (codes : List (Rc CodeData Global)) (nodes : List ℕ) (state : List Tern) where
  -- none was run
  pub RunsSome-none : (slots : List Slot) (changes : List Change) → RunsSome joining codes nodes state slots slots changes changes
  RunsSome-none slots changes = record {
    kept = λ change there. there;
    left = λ seat waits. inl waits;
    stays = λ seat waits. waits;
    only = λ change there. inl there;
  }

  -- some were run, and then some more
  pub RunsSome-then : (first second third : List Slot) (old mid new : List Change) → RunsSome joining codes nodes state first second old mid →
      RunsSome joining codes nodes state second third mid new → RunsSome joining codes nodes state first third old new
  RunsSome-then first second third old mid new before now = record {
    kept = λ change there. now.kept change (before.kept change there);
    left = λ seat waits.
        elim (before.left seat waits) [
          | inl still ↦ now.left seat still
          | inr noted ↦ inr (λ change is. now.kept change (noted change is))
        ];
    stays = λ seat waits. before.stays seat (now.stays seat waits);
    only = λ change there.
        elim (now.only change there) [
          | inl earlier ↦ before.only change earlier
          | inr (seat, waits, is) ↦ inr (seat, before.stays seat waits, is)
        ];
  }

  -- those of a slot were run
  pub RunsSome-slot : (slots : List Slot) (place : ℕ) (code : Rc CodeData Global) (old new : List Change) → place < length slots →
      slice_get codes (code_in slots place) ≡ Some code → NotesAll joining code.value nodes (starts_in slots place) state old new →
      RunsSome joining codes nodes state slots (cleared_at slots place) old new
  RunsSome-slot slots place code old new inside there notes = record {
    kept = notes.kept;
    left = λ seat waits.
        elim (Waits-cleared_cases slots place inside seat waits) [
          | inl still ↦ inl still
          | inr (same, start) ↦ inr (λ change is.
              let own : is.code ≡ code = same_Some is.code code (sym is.there ∙ (ap (slice_get codes) (sym same) ∙ there)) in
              notes.noted seat.at change start
              (subst (λ (one : Rc CodeData Global). IsNotedAt joining one.value nodes state seat.at change) own is.noted))
        ];
    stays = λ seat waits. Waits-cleared slots place inside seat waits;
    only = λ change later.
        elim (notes.only change later) [
          | inl earlier ↦ inl earlier
          | inr (at, start, noted) ↦
              inr (
                record { code = code_in slots place; at = at },
                Waits-in slots place at inside start,
                record { code = code; there = there; noted = noted },
              )
        ];
  }

  -- in a slot in which none waits none is run
  pub RunsSome-free : (slots : List Slot) (place : ℕ) (changes : List Change) → place < length slots → length (starts_in slots place) ≡ 0 →
      RunsSome joining codes nodes state slots (cleared_at slots place) changes changes
  RunsSome-free slots place changes inside free = record {
    kept = λ change there. there;
    left = λ seat waits.
        elim (Waits-cleared_cases slots place inside seat waits) [
          | inl still ↦ inl still
          | inr (same, (k, within, here)) ↦ absurd (omega (arith, within, free))
        ];
    stays = λ seat waits. Waits-cleared slots place inside seat waits;
    only = λ change there. inl there;
  }

  -- after some were run, a part comes to wait
  pub TakesIn-from_RunsSome : (seat : Seat) (waited between : List Slot) (old new : List Change) → slot_for seat.code < length between →
      HasRoom between seat.code → RunsSome joining codes nodes state waited between old new →
      TakesIn joining codes nodes state seat waited (with_seat between seat) old new
  TakesIn-from_RunsSome seat waited between old new inside room runs = record {
    between = between;
    runs = runs;
    waits = Waits-seat between seat inside;
    others = Waits-before between seat inside room;
    only = Waits-cases between seat inside room;
  }
