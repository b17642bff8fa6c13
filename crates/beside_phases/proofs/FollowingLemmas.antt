-- A step beside the good run in which a node follows that the good run changes: it changes under the fault too. If no such node follows, what is
-- taken over changes nothing.
use Rattle.std.proofs.Common.{◌≡◌, ◌≢◌, ℕ, ◌+◌, ◌<◌, inl, inr, Bool, List, [], ◌∷◌, ◌++◌, length, take, get_or, sym, ap, subst, ◌∙◌}
use Rattle.std.specs.Prelude.{Contains}
use Rattle.std.proofs.lemmas.List.{ext_get_or, take_more}
use Rattle.std.proofs.lemmas.List.Elements.{Contains-push_cases}
use Rattle.ternary.specs.declared.tern.Tern.{Tern}
use Rattle.ternary.specs.declared.tern.Tern.TheVariants.{Zero}
use Rattle.switch_paths.specs.Switching.{state_at}
use Rattle.part_words.specs.declared.change.Change.{Change}
use Rattle.machine_parts.specs.declared.part.MachinePart.{MachinePart}
use Rattle.machine_parts.proofs.CaseLemmas.{same_or_not}
use Rattle.machine_laws.specs.Machines.{MachineData}
use Rattle.run_beside.specs.Following.{IsWritten}
use Rattle.unit_step.specs.Beside.{AdvancesBeside, FollowsByPart, KeepsPartsApart}
use Rattle.beside_phases.specs.Counting.{FollowsOne, SomeFollows}

pub follows_moves : (joining : Bool) (changes : List Change) (apart new_apart : List Bool) (good : List Tern) (old new : MachineData) →
    KeepsPartsApart old.parts apart good old.state → AdvancesBeside joining changes apart new_apart old new → SomeFollows changes old.parts apart good →
    new.state ≢ old.state
follows_moves joining changes apart new_apart good old new kept advances some same =
    let one = some.one in
    let node = some.change.node in
    let owner = advances.owned.owner node one.k one.member in
    let takes = advances.moves_so.follows some.change some.there (one.k, owner, one.follows) in
    let before : state_at old.state node ≡ state_at good node =
    elim (same_or_not (state_at old.state node) (state_at good node)) [
      | inl alike ↦ alike
      | inr differs ↦ absurd (one.follows (kept node differs one.k (inl one.member)))
    ] in
    one.differs (sym before ∙ (sym (ap (λ state. state_at state node) same) ∙ takes))

pub unfollowed_stays : (changes : List Change) (apart : List Bool) (good : List Tern) (old : MachineData) (new : List Tern) →
    KeepsPartsApart old.parts apart good old.state → (¬ SomeFollows changes old.parts apart good) →
    IsWritten (FollowsByPart old.parts apart) changes old.state new → new ≡ old.state
unfollowed_stays changes apart good old new kept none written =
    ext_get_or Zero new old.state written.count (λ node inside.
    elim (same_or_not (state_at new node) (state_at old.state node)) [
      | inl same ↦ same
      | inr differs ↦ written.stays node (λ change there follows here.
          differs (subst (λ n. state_at new n ≡ state_at old.state n) here (taken_over change there follows)))
    ])
  where
    -- a node that follows had the value already
    taken_over : (change : Change) → Contains changes change → FollowsByPart old.parts apart change.node →
        state_at new change.node ≡ state_at old.state change.node
    taken_over change there (k, has, out) =
        let follows : FollowsByPart old.parts apart change.node = (k, has, out) in
        let in_good : state_at good change.node ≡ change.value =
        elim (same_or_not (state_at good change.node) change.value) [
          | inl same ↦ same
          | inr differs ↦ absurd (none (record { change = change; there = there; one = record { differs = differs; k = k; member = has; follows = out } }))
        ] in
        let alike : state_at old.state change.node ≡ state_at good change.node =
        elim (same_or_not (state_at old.state change.node) (state_at good change.node)) [
          | inl same ↦ same
          | inr differs ↦ absurd (out (kept change.node differs k (inl has)))
        ] in
        written.taken change there follows ∙ (sym in_good ∙ sym alike)

-- one change more whose node doesn't follow
pub none_follows-more : (changes : List Change) (i : ℕ) (change : Change) (parts : List MachinePart) (apart : List Bool) (good : List Tern) →
    i < length changes → change ≡ get_or changes i change → (¬ SomeFollows (take i changes) parts apart good) → (¬ FollowsOne change parts apart good) →
    ¬ SomeFollows (take (i + 1) changes) parts apart good
none_follows-more changes i change parts apart good inside is so_far out some =
    let more : take (i + 1) changes ≡ take i changes ++ change ∷ [] = take_more changes i change inside ∙ ap (λ x. take i changes ++ x ∷ []) (sym is) in
    elim (Contains-push_cases (take i changes) change some.change (subst (λ xs. Contains xs some.change) more some.there)) [
      | inl before ↦ so_far (record { change = some.change; there = before; one = some.one })
      | inr same ↦ out (subst (λ (c : Change). FollowsOne c parts apart good) (sym same) some.one)
    ]
