-- Walks that are blocked, and walks that aren't, hop by hop.
use Rattle.std.proofs.Common.{◌≡◌, ℕ, ◌+◌, ◌<◌, ◌≤◌, List, length, take, drop, get_or, sym}
use Rattle.std.specs.Prelude.{slice_index}
use Rattle.std.proofs.lemmas.List.{drop_more, take_more, take-append-drop}
use Rattle.ternary.specs.declared.tern.Tern.{Tern}
use Rattle.switch_paths.specs.Graphs.{GraphData, nodes}
use Rattle.switch_paths.specs.Path.{Stand, Hop, Leads, at_root, IsBlocked}
use Rattle.switch_paths.specs.Plain.{AreStrongest}
use Rattle.switch_paths.proofs.PathLemmas.{Hop-unique, Leads-more, Goes, Goes-leads, Goes-more}
use Rattle.switch_paths.proofs.TableMeaning.{unbeaten, beaten_below}

-- if something is left of a walk, a hop leads on, and the rest leads on from there
pub led : (g : GraphData) (state : List Tern) (here there : Stand) (hops : List ℕ) (k : ℕ) → k < length hops →
    Leads g state here (drop k hops) there →
    (next : Stand) × Hop g state here (get_or hops k 0) next × Leads g state next (drop (k + 1) hops) there
led g state here there hops k inside leads = rw (drop_more hops k 0 inside) at leads

-- so the hop that is known leads on
pub led_on : (g : GraphData) (state : List Tern) (here next there : Stand) (hops : List ℕ) (k : ℕ) → k < length hops →
    Leads g state here (drop k hops) there → Hop g state here (get_or hops k 0) next →
    Leads g state next (drop (k + 1) hops) there
led_on g state here next there hops k inside leads hop =
    let rest = led g state here there hops k inside leads in
    let same : rest.0 ≡ next = Hop-unique rest.1 hop in
    rw same at rest.2

module _ (g : GraphData) (state : List Tern) (best : List ℕ) (strongest : AreStrongest g state best) where
  -- where the strongest definite path is stronger than a prefix of the walk, the walk is blocked
  pub blocks : (root : ℕ) → root < nodes g → (hops : List ℕ) (k : ℕ) (here : Stand) →
      Leads g state (at_root g root) (take k hops) here → here.node < nodes g →
      here.strength < slice_index best here.node → IsBlocked g state root hops
  blocks root in_range hops k here leads inside less =
      record {
        front = take k hops;
        back = drop k hops;
        splits = sym (take-append-drop k hops);
        there = here;
        prefix = record { in_range = in_range; leads = leads };
        beaten = beaten_below g state best strongest here.node here.strength inside less;
      }

  -- a walk that isn't blocked so far goes on to where nothing stronger leads
  pub goes_more : (start here next : Stand) (hops : List ℕ) (k : ℕ) → k < length hops → Goes g state start (take k hops) here →
      Hop g state here (get_or hops k 0) next → slice_index best next.node ≤ next.strength →
      Goes g state start (take (k + 1) hops) next
  goes_more start here next hops k inside goes hop most =
      rw (take_more hops k 0 inside)
      (Goes-more g state (take k hops) start here next (get_or hops k 0) goes hop
      (unbeaten g state best strongest next.node next.strength most))

  -- a hop more of the walk
  pub leads_more : (start here next : Stand) (hops : List ℕ) (k : ℕ) → k < length hops → Goes g state start (take k hops) here →
      Hop g state here (get_or hops k 0) next → Leads g state start (take (k + 1) hops) next
  leads_more start here next hops k inside goes hop =
      rw (take_more hops k 0 inside)
      (Leads-more g state (take k hops) start here next (get_or hops k 0) (Goes-leads g state (take k hops) start here goes) hop)
