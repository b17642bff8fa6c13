-- One replacement more, of either kind, and what a joining step leaves known.
use Rattle.std.proofs.Common.{◌≡◌, ◌≢◌, ℕ, zero, suc, ◌+◌, ◌-◌, ◌<◌, ◌≤◌, ◌↔◌, true, inl, inr, List, length, refl, sym, ◌∙◌, ap, subst, arith}
use Rattle.std.proofs.lemmas.Bool.{cases_lt}
use Rattle.std.proofs.lemmas.Bool.Decides.{nat_tests}
use Rattle.ternary.specs.declared.tern.Tern.{Tern}
use Rattle.ternary.specs.declared.tern.Tern.TheVariants.{Unk}
use Rattle.strength_order.specs.declared.TheConstants.{INPUT_LEVEL}
use Rattle.switch_paths.specs.Switching.{state_at}
use Rattle.switch_paths.specs.Graphs.{GraphData, IsWired, nodes, level_of, is_storage_level, IsStorage}
use Rattle.switch_paths.specs.Laws.{IsJoin}
use Rattle.switch_paths.specs.Step.{IsStep}
use Rattle.settling.specs.Settling.{Stepping, IsJoinStep, Joining, StaysOrBecomesX, storage_nodes}
use Rattle.ternary.proofs.TernLemmas.{join-same, join-fades}
use Rattle.switch_paths.proofs.PathLemmas.{level_fits}
use Rattle.switch_paths.proofs.InputNodes.{input_response}
use Rattle.switch_paths.proofs.UniqueSteps.{response_is_unique}
use Rattle.settling.proofs.KnownStates.{Fades, known, known_storage, known-falls, known-count_by, same_or_somewhere}

-- what holds of a count and one more of the rest holds of one more and the rest
pub counted : (count more : ℕ) (P : ℕ → Type 0) → P (count + (more + 1)) → P ((count + 1) + more)
counted count more P holds =
    let same : count + (more + 1) ≡ (count + 1) + more = omega arith in
    subst P same holds

-- what holds of a count and none more holds of the count
pub counted_none : (count : ℕ) (P : ℕ → Type 0) → P (count + 0) → P count
counted_none count P holds =
    let same : count + 0 ≡ count = omega arith in
    subst P same holds

-- if the limit isn't reached, a step that changes something comes before the rest
pub Stepping-more : (g : GraphData) (limit done : ℕ) (old next : List Tern) (count : ℕ) (new : List Tern) → done < limit →
    IsStep g old next → next ≢ old → Stepping g (limit - (done + 1)) next count new →
    Stepping g (limit - done) old (count + 1) new
Stepping-more g limit done old next count new left step changed rest =
    let more : limit - done ≡ suc (limit - (done + 1)) = omega arith in
    rw more (next, step, inr (changed, (count, refl, rest)))

-- if the limit isn't reached, a step that changes nothing ends them
pub Stepping-rests : (g : GraphData) (limit done : ℕ) (old next : List Tern) → done < limit →
    IsStep g old next → next ≡ old → Stepping g (limit - done) old 0 next
Stepping-rests g limit done old next left step same =
    let more : limit - done ≡ suc (limit - (done + 1)) = omega arith in
    rw more (next, step, inl (same, refl, same))

-- at the limit there is no step
pub Stepping-ends : (g : GraphData) (limit done : ℕ) (old : List Tern) → limit ≤ done → Stepping g (limit - done) old 0 old
Stepping-ends g limit done old reached =
    let none : limit - done ≡ 0 = omega arith in
    rw none (refl, refl)

-- a joining step that changes something comes before the rest
pub Joining-more : (g : GraphData) (old next : List Tern) (count : ℕ) (new : List Tern) →
    IsJoinStep g old next → next ≢ old → Joining g next count new → Joining g old (count + 1) new
Joining-more g old next count new step changed rest =
    let more : count + 1 ≡ suc count = omega arith in
    rw more (next, step, changed, rest)

-- and one that changes nothing ends them
pub Joining-rests : (g : GraphData) (old next : List Tern) → IsJoinStep g old next → next ≡ old → Joining g old 0 next
Joining-rests g old next step same = ((rw same at step), same)

-- so many steps as there were before the limit was reached lead to a steady state
pub Stepping-steady : (g : GraphData) (limit : ℕ) (old : List Tern) (count : ℕ) (new : List Tern) →
    Stepping g limit old count new → count < limit → IsStep g new new
Stepping-steady g zero old count new steps fewer = absurd (omega arith)
Stepping-steady g (suc left) old count new steps fewer =
    elim steps.2 [
      | inl rests ↦ rw rests.2 (rw rests.0 at steps.1)
      | inr moves ↦ Stepping-steady g left steps.0 moves.1.0 new moves.1.2 (omega (arith, moves.1.1))
    ]

-- at a steady state the joining steps end at once
pub Joining-steady : (g : GraphData) (old : List Tern) → IsStep g old old → Joining g old 0 old
Joining-steady g old step =
    let joins : IsJoin old old old = record {
      left = refl;
      right = refl;
      each =
          λ node inside. sym (join-same (state_at old node));
    } in
    (record { response = old; step = step; joins = joins }, refl)

-- a joining step changes storage nodes alone, and makes them X
module _ (g : GraphData) (wired : IsWired g) (old new : List Tern) (step : IsJoinStep g old new) where
  -- as many states as nodes
  pub joined_count : length old ≡ nodes g
  joined_count = omega (arith, step.joins.left, step.joins.right, step.step.count)

  -- an input node keeps its state
  input_stays : (node : ℕ) → node < length old → level_of g node ≡ INPUT_LEVEL → state_at new node ≡ state_at old node
  input_stays node inside input =
      let in_range : node < nodes g = omega (arith, joined_count) in
      let own = input_response g wired old node in_range input in
      let steady : state_at step.response node ≡ state_at old node =
      response_is_unique g old node (state_at step.response node) (state_at old node) (step.step.each node in_range) own in
      step.joins.each node (omega (arith, step.joins.left)) ∙ (rw steady (join-same (state_at old node)))

  -- a storage node keeps its state or becomes X
  storage_fades : (node : ℕ) → node < length old → is_storage_level (level_of g node) ≡ true →
      Fades (is_storage_level (level_of g node)) (state_at old node) (state_at new node)
  storage_fades node inside storage =
      let joined = step.joins.each node (omega (arith, step.joins.left)) in
      elim (join-fades (state_at old node) (state_at step.response node)) [
        | inl kept ↦ inl (joined ∙ kept)
        | inr faded ↦ inr (storage, joined ∙ faded)
      ]

  -- so every node fades
  node_fades : (node : ℕ) → node < length old → Fades (is_storage_level (level_of g node)) (state_at old node)
      (state_at new node)
  node_fades node inside =
      let level = level_of g node in
      let in_range : node < nodes g = omega (arith, joined_count) in
      let high : level ≤ INPUT_LEVEL = (level_fits g wired node in_range).high in
      elim (cases_lt level INPUT_LEVEL) [
        | inl below ↦ storage_fades node inside (grind (arith, nat_tests, below))
        | inr above ↦ inl (input_stays node inside (omega arith))
      ]

  -- a joining step that changes something leaves fewer storage nodes known
  pub storage-falls : new ≢ old →
      known_storage g new < known_storage g old
  storage-falls changed = known-falls (λ node. is_storage_level (level_of g node)) old new step.joins.left node_fades changed

  -- the node at which it changes something is a storage node that was known, and is X now
  made_x : (node : ℕ) → node < length old → state_at new node ≢ state_at old node →
      IsStorage g node × (state_at old node ≢ Unk) × (state_at new node ≡ Unk)
  made_x node inside changed =
      let in_range : node < nodes g = omega (arith, joined_count) in
      let high : level_of g node ≤ INPUT_LEVEL = (level_fits g wired node in_range).high in
      let unknown : state_at new node ≡ Unk = elim
      (node_fades node inside) [ inl same ↦ absurd (changed same) | inr faded ↦ faded.1 ] in
      let below : level_of g node < INPUT_LEVEL = elim (cases_lt (level_of g node) INPUT_LEVEL) [
        | inl below ↦ below
        | inr above ↦ absurd (changed (input_stays node inside (omega arith)))
      ] in
      (record { inside = in_range; below = below }, (λ was. changed (unknown ∙ sym was)), unknown)

  -- a joining step that changes something makes some storage node X that wasn't
  pub some_made_x : new ≢ old →
      (node : ℕ) × IsStorage g node × (state_at old node ≢ Unk) × (state_at new node ≡ Unk)
  some_made_x changed = elim (same_or_somewhere old new step.joins.left) [
    | inl same ↦ absurd (changed same)
    | inr there ↦ let made = made_x there.0 there.1 there.2 in (there.0, made.0, made.1, made.2)
  ]

-- and so it is with all nodes, whatever was joined
pub all-falls : (old new : List Tern) → length new ≡ length old → StaysOrBecomesX old new → new ≢ old →
    known (λ _. true) new < known (λ _. true) old
all-falls old new count each changed =
    known-falls (λ _. true) old new count
    (λ node inside. elim (each node inside) [ inl same ↦ inl same | inr unknown ↦ inr (refl, unknown) ]) changed

-- no more joining steps changed something than there are storage nodes: one more, while fewer are left known
pub storage-more : (g : GraphData) → IsWired g → (count : ℕ) (old new : List Tern) →
    (0 < count → count + known_storage g old ≤ storage_nodes g) →
    IsJoinStep g old new → new ≢ old →
    (count + 1) + known_storage g new ≤ storage_nodes g
storage-more g wired zero old new before step changed =
    let most = known-count_by is_storage_level g.levels old (joined_count g wired old new step) in
    omega (arith, most, storage-falls g wired old new step changed)
storage-more g wired (suc count) old new before step changed =
    omega (arith, before (omega arith), storage-falls g wired old new step changed)

-- nodes that became X in two goes became X alone
pub fades-more : (old mid new : List Tern) → length mid ≡ length old →
    StaysOrBecomesX old mid → StaysOrBecomesX mid new → StaysOrBecomesX old new
fades-more old mid new count first second node inside =
    elim (second node (omega arith)) [
      | inl kept ↦ elim (first node inside) [ inl same ↦ inl (kept ∙ same) | inr unknown ↦ inr (kept ∙ unknown) ]
      | inr unknown ↦ inr unknown
    ]

-- if each of so many joining steps left fewer known, there was none exactly if nothing changed
pub rested_at : (count : ℕ) (old new : List Tern) → (count ≡ 0 → new ≡ old) →
    count + known (λ _. true) new ≤ known (λ _. true) old → (count ≡ 0) ↔ (new ≡ old)
rested_at count old new unmoved fewer =
    (unmoved, (λ same. omega (arith, fewer, ap (known (λ _. true)) same)))
