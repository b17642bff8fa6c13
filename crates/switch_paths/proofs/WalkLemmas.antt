-- Walks, hop by hop: what is known from a stand on is known of the whole walk.
use Rattle.std.proofs.Common.{◌≡◌, ℕ, ◌+◌, ◌<◌, ◌≤◌, List, ◌∷◌, length, drop, get_or, Option, Some, None, refl}
use Rattle.std.proofs.lemmas.List.{drop_all, drop_more}
use Rattle.ternary.specs.declared.tern.Tern.{Tern}
use Rattle.switch_paths.specs.declared.walks.WalkFacts.{WalkFacts}
use Rattle.switch_paths.specs.Graphs.{GraphData, nodes}
use Rattle.switch_paths.specs.Path.{Stand, Leads, at_root}
use Rattle.switch_paths.specs.Walks.{stand_of, AreFacts, AreFactsAfter}
use Rattle.switch_paths.proofs.PathLemmas.{Hop-unique}

-- the facts are of where the hops lead from this stand, or they lead nowhere
abbrev pub AreFactsFrom : GraphData → List Tern → Stand → List ℕ → Option WalkFacts → Type 0
AreFactsFrom g state here hops None = (there : Stand) → ¬ Leads g state here hops there
AreFactsFrom g state here hops (Some facts) = Leads g state here hops (stand_of facts)

-- after a hop that leads on, the facts from there are the facts from here
AreFactsFrom-hop : (g : GraphData) (state : List Tern) (here : Stand) (place : ℕ) (hops : List ℕ) (next : WalkFacts)
    (answer : Option WalkFacts) →
    AreFactsAfter g state here place (Some next) → AreFactsFrom g state (stand_of next) hops answer →
    AreFactsFrom g state here (place ∷ hops) answer
AreFactsFrom-hop g state here place hops next None hop nowhere = λ there leads.
    let same : leads.0 ≡ stand_of next = Hop-unique leads.1 hop in
    nowhere there (rw same at leads.2)
AreFactsFrom-hop g state here place hops next (Some facts) hop leads = (stand_of next, hop, leads)

-- one hop on in a walk: what is told from behind the hop is told from before it
pub AreFactsFrom-next : (g : GraphData) (state : List Tern) (here : Stand) (hops : List ℕ) (k : ℕ) (next : WalkFacts)
    (answer : Option WalkFacts) →
    k < length hops → AreFactsAfter g state here (get_or hops k 0) (Some next) →
    AreFactsFrom g state (stand_of next) (drop (k + 1) hops) answer → AreFactsFrom g state here (drop k hops) answer
AreFactsFrom-next g state here hops k next answer inside hop known =
    rw (drop_more hops k 0 inside) (AreFactsFrom-hop g state here (get_or hops k 0) (drop (k + 1) hops) next answer hop known)

-- after a hop that leads nowhere, the whole walk leads nowhere
pub AreFactsFrom-stopped : (g : GraphData) (state : List Tern) (here : Stand) (hops : List ℕ) (k : ℕ) →
    k < length hops → AreFactsAfter g state here (get_or hops k 0) None → AreFactsFrom g state here (drop k hops) None
AreFactsFrom-stopped g state here hops k inside stopped =
    rw (drop_more hops k 0 inside) (λ there leads. stopped leads.0 leads.1)

-- where no hop is left, the walk stands where it is
pub AreFactsFrom-end : (g : GraphData) (state : List Tern) (hops : List ℕ) (k : ℕ) (facts : WalkFacts) →
    length hops ≤ k → AreFactsFrom g state (stand_of facts) (drop k hops) (Some facts)
AreFactsFrom-end g state hops k facts all = rw (drop_all k hops all) refl

-- what is known from the root on is known of the live path
pub AreFacts-from_root : (g : GraphData) (state : List Tern) (root : ℕ) (hops : List ℕ) (answer : Option WalkFacts) →
    root < nodes g →
    AreFactsFrom g state (at_root g root) hops answer → AreFacts g state root hops answer
AreFacts-from_root g state root hops None inside nowhere = λ there path. nowhere there path.leads
AreFacts-from_root g state root hops (Some facts) inside leads = record { in_range = inside; leads = leads }
