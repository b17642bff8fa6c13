-- Reasons are local: a best reason for a rail of a member in its group's local graph stands for a best reason in the
-- whole graph, and where there is none in the one there is none in the other.
-- Unblocked paths to a member are the same in both graphs, hop by hop and with the same strengths.
use Rattle.std.proofs.Common.{◌≡◌, ℕ, ◌<◌, Bool, true, List, [], ◌∷◌, ◌++◌, length, map, take, drop, All, Option, refl, sym, ap, subst, ◌∙◌, arith}
use Rattle.std.specs.Prelude.{slice_index}
use Rattle.std.proofs.lemmas.List.{take-map, take-append-drop, length-map}
use Rattle.std.proofs.lemmas.List.Elements.{All-nil, All-cons}
use Rattle.ternary.specs.declared.tern.Tern.{Tern}
use Rattle.strength_order.specs.declared.TheConstants.{INPUT_LEVEL}
use Rattle.switch_paths.specs.declared.walks.Walk.{Walk}
use Rattle.switch_paths.specs.Switching.{state_at}
use Rattle.switch_paths.specs.Graphs.{GraphData, IsWired, nodes, level_of}
use Rattle.switch_paths.specs.Path.{Stand, Leads, at_root, LivePath, Reaches}
use Rattle.switch_paths.proofs.PathLemmas.{place_inside, Leads-cut, Leads-unique, Leads-in_range, Goes, Goes-front, Goes-leads, Goes-from_unblocked, unblocked-from_Goes}
use Rattle.switch_paths.proofs.StrongestPaths.{best_table}
use Rattle.switch_paths.proofs.InputNodes.{unbeaten}
use Rattle.group_meaning.proofs.StoragePaths.{from_itself}
use Rattle.group_meaning.specs.Groups.{Group, IsGroup}
use Rattle.group_text.specs.Texts.{local_nodes, local_graph, local_state}
use Rattle.group_text.proofs.LocalNodes.{same_place, locals_apart, member_at}
use Rattle.group_text.proofs.LocalEdges.{state_local, nodes_local}
use Rattle.group_text.proofs.WellFormedTexts.{local_wired}
use Rattle.group_text.proofs.AlikeNodes.{IsAlike}
use Rattle.group_text.proofs.LocalHops.{whole_stand, whole_root}
use Rattle.group_text.proofs.Locality.{alike_start, goes_whole, reaches_local}
use Rattle.why_path.specs.Reasons.{IsReason, PassesTwice, IsBestReason, Explains}

-- a path goes over places of the graph
pub hops_inside : (g : GraphData) (state : List Tern) (hops : List ℕ) (here there : Stand) → Leads g state here hops there →
    All (λ place. place < length g.places) hops
hops_inside g state [] here there leads = All-nil (λ place. place < length g.places)
hops_inside g state (place ∷ hops) here there leads =
    All-cons (λ p. p < length g.places) place hops
    (place_inside g.places place leads.1.switch leads.1.at_place) (hops_inside g state hops leads.0 there leads.2)

module _ (rail : Tern → Bool) (g : GraphData) (wired : IsWired g) (group : Group) (is_group : IsGroup g group) (state : List Tern)
    (k : ℕ) (first : k < length group.members) where
  abbrev locals : List ℕ
  locals = local_nodes g group

  abbrev local_states : List Tern
  local_states = local_state (local_nodes g group) state

  abbrev member : ℕ
  member = slice_index group.members k

  abbrev over : List ℕ → List ℕ
  over hops = map (slice_index group.switches) hops

  text_wired : IsWired (local_graph g group)
  text_wired = local_wired g wired group is_group

  -- an unblocked path of the local graph is one of the whole graph
  whole_goes : (hops : List ℕ) (root : ℕ) (there : Stand) → Goes (local_graph g group) local_states (at_root (local_graph g group) root) hops there →
      IsAlike g group root → Goes g state (at_root g (slice_index locals root)) (over hops) (whole_stand locals there)
  whole_goes hops root there goes alike =
      let best = best_table g wired state in
      let local_best = best_table (local_graph g group) text_wired local_states in
      let whole = goes_whole g wired group is_group state best.0 local_best.0 best.1 local_best.1 hops (at_root (local_graph g group) root) there
      goes alike in
      rw (whole_root g group root alike) at whole

  -- a local reason, and that its root has the level of what it stands for
  local_goes : (root : ℕ) (hops : List ℕ) → (reason : IsReason rail (local_graph g group) local_states k root hops) →
      Goes (local_graph g group) local_states (at_root (local_graph g group) root) hops reason.there
  local_goes root hops reason = Goes-from_unblocked (local_graph g group) local_states root hops reason.there reason.path reason.unblocked

  alike_root : (root : ℕ) (hops : List ℕ) → IsReason rail (local_graph g group) local_states k root hops → IsAlike g group root
  alike_root root hops reason =
      alike_start g wired group is_group state hops (at_root (local_graph g group) root) reason.there (local_goes root hops reason)
      (rw reason.ends first)

  -- a local reason stands for a reason
  abbrev whole_reason : (root : ℕ) (hops : List ℕ) → IsReason rail (local_graph g group) local_states k root hops →
      IsReason rail g state member (slice_index locals root) (over hops)
  whole_reason root hops reason =
      let alike = alike_root root hops reason in
      let whole = whole_goes hops root reason.there (local_goes root hops reason) alike in
      let start = at_root g (slice_index locals root) in
      let there = whole_stand locals reason.there in
      record {
        there = there;
        path = record { in_range = alike.in_range; leads = Goes-leads g state (over hops) start there whole };
        ends = ap (slice_index locals) reason.ends ∙ member_at g group is_group k first;
        unblocked = unblocked-from_Goes g state (slice_index locals root) (over hops) there whole;
        set = sym (ap rail (state_local locals state root alike.inside)) ∙ reason.set;
      }

  -- a reason has a copy that is as strong
  record IsCopy (strength : ℕ) : Type 0 where
    root : ℕ
    hops : List ℕ
    reason : IsReason rail (local_graph g group) local_states k root hops
    strong : reason.there.strength ≡ strength

  local_reason : (root : ℕ) (hops : List ℕ) → (reason : IsReason rail g state member root hops) → IsCopy reason.there.strength
  local_reason root hops reason =
      let best = best_table g wired state in
      let local_best = best_table (local_graph g group) text_wired local_states in
      let reached : Reaches g state root member =
      record { hops = hops; there = reason.there; path = reason.path; ends = reason.ends; unblocked = reason.unblocked } in
      let copied = reaches_local g wired group is_group state best.0 local_best.0 best.1 local_best.1 root k first reached in
      record {
        root = copied.local;
        hops = copied.reaches.hops;
        reason = record {
          there = copied.reaches.there;
          path = copied.reaches.path;
          ends = copied.reaches.ends;
          unblocked = copied.reaches.unblocked;
          set = ap rail (state_local locals state copied.local copied.inside ∙ ap (state_at state) copied.stands) ∙ reason.set;
        };
        strong = copied.strong;
      }

  -- a prefix of a local reason, and where it stands in both graphs
  record IsFront (root : ℕ) (hops : List ℕ) (count : ℕ) (there : Stand) : Type 0 where
    mid : Stand
    path : LivePath (local_graph g group) local_states root (take count hops) mid
    inside : mid.node < length locals
    named : slice_index locals mid.node ≡ there.node

  front : (root : ℕ) (hops : List ℕ) → IsReason rail (local_graph g group) local_states k root hops → (count : ℕ) (there : Stand) →
      LivePath g state (slice_index locals root) (take count (over hops)) there → IsFront root hops count there
  front root hops reason count there whole =
      let start = at_root (local_graph g group) root in
      let goes = local_goes root hops reason in
      let split : Leads (local_graph g group) local_states start (take count hops ++ drop count hops) reason.there =
      rw (take-append-drop count hops) reason.path.leads in
      let cut = Leads-cut (local_graph g group) local_states (take count hops) (drop count hops) start reason.there split in
      let both : Goes (local_graph g group) local_states start (take count hops ++ drop count hops) reason.there = rw (take-append-drop count hops) goes in
      let before = Goes-front (local_graph g group) local_states (take count hops) (drop count hops) start cut.0 reason.there both cut.1 in
      let moved = whole_goes (take count hops) root cut.0 before (alike_root root hops reason) in
      let begin = at_root g (slice_index locals root) in
      let leads = Goes-leads g state (over (take count hops)) begin (whole_stand locals cut.0) moved in
      let same_hops : take count (over hops) ≡ over (take count hops) = take-map (slice_index group.switches) count hops in
      let same : whole_stand locals cut.0 ≡ there =
      Leads-unique g state (over (take count hops)) begin (whole_stand locals cut.0) there leads (rw same_hops at whole.leads) in
      let in_range : cut.0.node < nodes (local_graph g group) =
      Leads-in_range (local_graph g group) local_states text_wired (take count hops) start cut.0 cut.1 reason.path.in_range in
      record {
        mid = cut.0;
        path = record { in_range = reason.path.in_range; leads = cut.1 };
        inside = rw (nodes_local g group is_group) at in_range;
        named = ap (λ (x : Stand). x.node) same;
      }

  -- what passes no node twice in the local graph passes none twice in the whole graph
  whole_once : (root : ℕ) (hops : List ℕ) → IsReason rail (local_graph g group) local_states k root hops →
      (¬ PassesTwice (local_graph g group) local_states root hops) → ¬ PassesTwice g state (slice_index locals root) (over hops)
  whole_once root hops reason once twice =
      let before = front root hops reason twice.first twice.before twice.to_before in
      let after = front root hops reason twice.second twice.after twice.to_after in
      once (record {
        first = twice.first;
        second = twice.second;
        later = twice.later;
        inside = omega (arith, twice.inside, length-map hops (slice_index group.switches));
        before = before.mid;
        after = after.mid;
        to_before = before.path;
        to_after = after.path;
        same = same_place locals (locals_apart g group) before.mid.node after.mid.node before.inside after.inside
            (before.named ∙ twice.same ∙ sym after.named);
      })

  -- a best local reason stands for a best reason
  pub whole_best : (root : ℕ) (hops : List ℕ) → IsBestReason rail (local_graph g group) local_states k root hops →
      IsBestReason rail g state member (slice_index locals root) (over hops)
  whole_best root hops found = record {
    reason = whole_reason root hops found.reason;
    once = whole_once root hops found.reason found.once;
    most = λ other_root other_hops other.
        let copy = local_reason other_root other_hops other in
        omega (arith, copy.strong, found.most copy.root copy.hops copy.reason);
  }

  -- and where there is no local reason there is none
  pub whole_none : ((root : ℕ) (hops : List ℕ) → ¬ IsReason rail (local_graph g group) local_states k root hops) →
      (root : ℕ) (hops : List ℕ) → ¬ IsReason rail g state member root hops
  whole_none none root hops reason =
      let copy = local_reason root hops reason in
      none copy.root copy.hops copy.reason

-- what explains a rail over a graph and a state explains it over whatever equals them
pub Explains-same : (rail : Tern → Bool) (graph other : GraphData) (states others : List Tern) (k : ℕ) (found : Option Walk) →
    graph ≡ other → states ≡ others → Explains rail graph states k found → Explains rail other others k found
Explains-same rail graph other states others k found same_graph same_states explains =
    subst (λ (s : List Tern). Explains rail other s k found) same_states
    (subst (λ (g : GraphData). Explains rail g states k found) same_graph explains)

-- the empty path of an input node
module _ (rail : Tern → Bool) (g : GraphData) (wired : IsWired g) (state : List Tern) (node : ℕ) (in_range : node < nodes g)
    (input : level_of g node ≡ INPUT_LEVEL) where
  -- the only unblocked path to it is its empty one
  empty_reason : (root : ℕ) (hops : List ℕ) → IsReason rail g state node root hops → (hops ≡ []) × (root ≡ node)
  empty_reason root hops reason =
      let none : hops ≡ [] =
      from_itself g wired state root hops reason.there reason.path reason.unblocked (rw reason.ends input) in
      let leads : Leads g state (at_root g root) [] reason.there = rw none at reason.path.leads in
      (none, ap (λ (x : Stand). x.node) leads ∙ reason.ends)

  -- it is the best reason, where the node's state has the rail
  pub input_best : rail (state_at state node) ≡ true → IsBestReason rail g state node node []
  input_best set = record {
    reason = record {
      there = at_root g node;
      path = record { in_range = in_range; leads = refl };
      ends = refl;
      unblocked = unblocked-from_Goes g state node [] (at_root g node) (unbeaten g wired state node in_range input, refl);
      set = set;
    };
    once = λ twice. absurd (omega (arith, twice.later, twice.inside));
    most = λ other_root other_hops other.
        let only = empty_reason other_root other_hops other in
        let leads : Leads g state (at_root g other_root) [] other.there = rw only.0 at other.path.leads in
        let same : level_of g other_root ≡ level_of g node = ap (level_of g) only.1 in
        omega (arith, ap (λ (x : Stand). x.strength) leads);
  }

  -- and else there is none
  pub input_none : (¬ (rail (state_at state node) ≡ true)) → (root : ℕ) (hops : List ℕ) → ¬ IsReason rail g state node root hops
  input_none unset root hops reason =
      let only = empty_reason root hops reason in
      unset (rw only.1 at reason.set)
