-- A set of storage nodes rests that no live switch leads out of, if its nodes took their steady states and no switch and no input node at
-- its edge changed.
-- The same paths are unblocked before and after. A root within that sets a rail reaches itself, so it has the rail afterwards too; what sets a
-- rail afterwards had it from a root that reaches on. A root at the edge stays.
use Rattle.std.proofs.Common.{◌≡◌, ℕ, Bool, true, List, sym, ap, ◌∙◌}
use Rattle.std.specs.Prelude.{◌↔◌}
use Rattle.ternary.specs.declared.tern.Tern.{Tern}
use Rattle.ternary.specs.Tern.{may_one, may_zero}
use Rattle.strength_order.specs.declared.TheConstants.{INPUT_LEVEL}
use Rattle.switch_paths.specs.Switching.{state_at}
use Rattle.switch_paths.specs.Graphs.{GraphData, IsWired, level_of}
use Rattle.switch_paths.specs.Path.{Reaches}
use Rattle.switch_paths.specs.Step.{Responds, IsResponse}
use Rattle.switch_paths.proofs.JoinedPaths.{reach_on, roots_reach}
use Rattle.group_meaning.specs.Groups.{AreJoined}
use Rattle.vicinity.specs.Vicinities.{live_graph}
use Rattle.vicinity.proofs.CarriedPaths.{IsClosedSet, closed_stays, SwitchesStay, SwitchesStay-sym, StartsAt, reaches_stays}
use Rattle.vicinity.proofs.CarriedPaths.StartsAt.{within, edge}

-- the input nodes at the edge of the set stay
abbrev pub EdgeStays : GraphData → List Tern → List Tern → (ℕ → Type 0) → Type 0
EdgeStays g old new In =
    (place n m : ℕ) → In n → AreJoined (live_graph g old) place n m → level_of g m ≡ INPUT_LEVEL → state_at new m ≡ state_at old m

module _ (g : GraphData) (wired : IsWired g) (old new : List Tern) (In : ℕ → Type 0) (set : IsClosedSet g old In)
    (stay : SwitchesStay g old new In) (edge_stays : EdgeStays g old new In) where
  module _ (rail : Tern → Bool) (sets : (node : ℕ) → In node → (rail (state_at new node) ≡ true) ↔ Responds rail g old node) where
    -- a root of an unblocked path into the set that sets the rail before sets it afterwards
    root_sets : (root : ℕ) → StartsAt g old In root → Reaches g old root root → rail (state_at old root) ≡ true → rail (state_at new root) ≡ true
    root_sets root (within inside) itself set_before = (sets root inside).1 (root, itself, set_before)
    root_sets root (edge input place n joined inside) itself set_before =
        ap rail (edge_stays place n root inside joined input) ∙ set_before

    -- what responds before responds afterwards
    responds_again : (node : ℕ) → In node → Responds rail g old node → Responds rail g new node
    responds_again node inside way =
        let root = way.0 in
        let stays = reaches_stays g wired old new In set stay root node way.1 inside in
        (root, stays.1, root_sets root stays.0 (roots_reach g old root node way.1) way.2)

    -- a root that sets the rail afterwards had it from one that sets it before
    root_had : (root node : ℕ) → StartsAt g old In root → Reaches g old root node → rail (state_at new root) ≡ true → Responds rail g old node
    root_had root node (within inside) reached set_after =
        let first = (sets root inside).0 set_after in
        (first.0, reach_on g old first.0 root node first.1 reached, first.2)
    root_had root node (edge input place n joined inside) reached set_after =
        (root, reached, ap rail (sym (edge_stays place n root inside joined input)) ∙ set_after)

    -- what responds afterwards responds before
    responded_before : (node : ℕ) → In node → Responds rail g new node → Responds rail g old node
    responded_before node inside way =
        let root = way.0 in
        let back = reaches_stays g wired new old In (closed_stays g old new In set stay) (SwitchesStay-sym g old new In stay) root node way.1 inside in
        let forth = reaches_stays g wired old new In set stay root node back.1 inside in
        root_had root node forth.0 back.1 way.2

    rest_responds : (node : ℕ) → In node → (rail (state_at new node) ≡ true) ↔ Responds rail g new node
    rest_responds node inside =
        ((λ set_now. responds_again node inside ((sets node inside).0 set_now)), (λ way. (sets node inside).1 (responded_before node inside way)))

  -- so its nodes rest
  pub set_rests : ((node : ℕ) → In node → IsResponse g old node (state_at new node)) → (node : ℕ) → In node →
      IsResponse g new node (state_at new node)
  set_rests responded node inside = record {
    one = rest_responds may_one (λ m at. (responded m at).one) node inside;
    zero = rest_responds may_zero (λ m at. (responded m at).zero) node inside;
  }
