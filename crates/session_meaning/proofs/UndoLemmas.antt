-- The graph before each edit of a session's circuit is the one that its change undoes to, or that with an empty place more.
use Rattle.std.proofs.Common.{◌≡◌, ℕ, ◌≤◌, List, [], ◌∷◌, ◌++◌, length, take, Option, Some, None, inl, inr, refl, sym, ap, subst, ◌∙◌, arith, append-nil, ◌-◌}
use Rattle.std.specs.Prelude.{slice_set}
use Rattle.std.proofs.lemmas.List.{length-set, take_at, set-set, set-get_or, set_at, get_or_past}
use Rattle.switch_paths.specs.declared.switching.Switch.{Switch}
use Rattle.switch_paths.specs.declared.switching.SwitchKind.{SwitchKind}
use Rattle.switch_paths.specs.Graphs.{GraphData, IsWired, nodes, place_at}
use Rattle.channel_groups.specs.declared.change.Change.{Change}
use Rattle.channel_groups.specs.Changes.{undo}
use Rattle.channel_groups.proofs.EditLemmas.{undo-level}
use Rattle.column_stage.specs.Edits.{IsUndone}
use Rattle.netlist.specs.Circuits.{CircuitData, IsCircuit}
use Rattle.netlist.specs.Edits.{with_transistor, with_wires, with_place, with_level}
use Rattle.netlist.proofs.EditLemmas.{nodes-with_transistor, nodes-with_wires, levels-with_transistor, levels-with_wires, places-with_transistor, places-with_wires}
use Rattle.session_meaning.specs.Stages.{before_place, before_level}

-- if that is the graph before
undoes-same : (g before : GraphData) (change : Change) → undo g change ≡ before → nodes before ≤ nodes g → IsWired before →
    IsUndone before g change
undoes-same g before change is more wired = record { wired = wired; more = more; is = inl is }

-- or if it is that graph with an empty place more
undoes-more : (g before : GraphData) (change : Change) → undo g change ≡ record before { places = before.places ++ None ∷ [] } → nodes before ≤ nodes g →
    IsWired before → IsUndone before g change
undoes-more g before change is more wired = record { wired = wired; more = more; is = inr is }

-- levels that were there are there still
levels_before : (before levels more : List ℕ) → levels ≡ before ++ more → take (length before) levels ≡ before
levels_before before levels more is = ap (λ (xs : List ℕ). take (length before) xs) is ∙ take_at before more (length before) refl

-- another switch, or none, at a place, and perhaps new nodes
undone-place : (g before : GraphData) (place : ℕ) (switch : Option Switch) (more : List ℕ) → g.levels ≡ before.levels ++ more →
    g.places ≡ slice_set before.places place switch → undo g (before_place before place) ≡ before
undone-place g before place switch more levels places =
    let same : take (nodes before) g.levels ≡ before.levels = levels_before before.levels g.levels more levels in
    let put : slice_set g.places place (place_at before.places place) ≡ before.places =
    ap (λ (ps : List (Option Switch)). slice_set ps place (place_at before.places place)) places
    ∙ set-set before.places place switch (place_at before.places place) ∙ set-get_or before.places place None in
    λ i. record { levels = same i; places = put i }

-- a switch more, and perhaps new nodes
undone-switch : (g before : GraphData) (switch : Switch) (more : List ℕ) → g.levels ≡ before.levels ++ more →
    g.places ≡ before.places ++ Some switch ∷ [] → undo g (before_place before (length before.places)) ≡ record before { places = before.places ++ None ∷ [] }
undone-switch g before switch more levels places =
    let count : ℕ = length before.places in
    let same : take (nodes before) g.levels ≡ before.levels = levels_before before.levels g.levels more levels in
    let none : place_at before.places count ≡ None = get_or_past before.places count None (omega arith) in
    let put : slice_set g.places count (place_at before.places count) ≡ before.places ++ None ∷ [] =
    ap (λ (ps : List (Option Switch)). slice_set ps count (place_at before.places count)) places
    ∙ ap (λ (there : Option Switch). slice_set (before.places ++ Some switch ∷ []) count there) none
    ∙ set_at before.places (Some switch) [] None count refl in
    λ i. record { levels = same i; places = put i }

-- ---- the edits

-- something else at a transistor's place
undoes-with_place : (c : CircuitData) (number : ℕ) (there : Option Switch) → IsCircuit c →
    IsUndone c.graph (with_place c number there).graph (before_place c.graph (number - 1))
undoes-with_place c number there is =
    undoes-same (with_place c number there).graph c.graph (before_place c.graph (number - 1))
    (undone-place (with_place c number there).graph c.graph (number - 1) there [] (sym (append-nil c.graph.levels)) refl) (omega arith) is.wired

-- another level of a node
undoes-with_level : (c : CircuitData) (node level : ℕ) → IsCircuit c → IsUndone c.graph (with_level c node level).graph (before_level c.graph node)
undoes-with_level c node level is =
    undoes-same (with_level c node level).graph c.graph (before_level c.graph node) (undo-level c.graph node level)
    (omega (arith, length-set c.graph.levels node level)) is.wired

-- a transistor more
undoes-with_transistor : (c : CircuitData) (kind : SwitchKind) (strength : ℕ) (gate source drain : List ℕ) → IsCircuit c →
    IsUndone c.graph (with_transistor c kind strength gate source drain).graph (before_place c.graph (length c.graph.places))
undoes-with_transistor c kind strength gate source drain is =
    let g : GraphData = (with_transistor c kind strength gate source drain).graph in
    let (count, levels) = levels-with_transistor c kind strength gate source drain in
    undoes-more g c.graph (before_place c.graph (length c.graph.places))
    (undone-switch g c.graph _ _ levels (places-with_transistor c kind strength gate source drain))
    (nodes-with_transistor c kind strength gate source drain) is.wired

-- other terminals of a transistor
undoes-with_wires : (c : CircuitData) (number : ℕ) (gate source drain : List ℕ) → IsCircuit c →
    IsUndone c.graph (with_wires c number gate source drain).graph (before_place c.graph (number - 1))
undoes-with_wires c number gate source drain is =
    let g : GraphData = (with_wires c number gate source drain).graph in
    let (count, levels) = levels-with_wires c number gate source drain in
    undoes-same g c.graph (before_place c.graph (number - 1))
    (undone-place g c.graph (number - 1) _ _ levels (places-with_wires c number gate source drain))
    (nodes-with_wires c number gate source drain) is.wired

-- ---- the edits that a session made, by what is known of the circuit after them and of the change that was told before them

undoes-by : (before after : CircuitData) (change : Change) {target : CircuitData} {wanted : Change} → after ≡ target → change ≡ wanted →
    IsUndone before.graph target.graph wanted → IsUndone before.graph after.graph change
undoes-by before after change {target} {wanted} is told undoes =
    subst (λ (c : CircuitData). IsUndone before.graph c.graph change) (sym is)
    (subst (λ (other : Change). IsUndone before.graph target.graph other) (sym told) undoes)

module _ (before after : CircuitData) (graph : GraphData) (change : Change) (is : IsCircuit before) (same : graph ≡ before.graph) where
  -- something else was put at a transistor's place
  pub undoes-place : (number : ℕ) (there : Option Switch) → change ≡ before_place graph (number - 1) → after ≡ with_place before number there →
      IsUndone before.graph after.graph change
  undoes-place number there told made =
      undoes-by before after change made (told ∙ ap (λ (g : GraphData). before_place g (number - 1)) same) (undoes-with_place before number there is)

  -- a node got another level
  pub undoes-level : (node level : ℕ) → change ≡ before_level graph node → after ≡ with_level before node level → IsUndone before.graph after.graph change
  undoes-level node level told made =
      undoes-by before after change made (told ∙ ap (λ (g : GraphData). before_level g node) same) (undoes-with_level before node level is)

  -- a transistor was added
  pub undoes-transistor : (kind : SwitchKind) (strength place : ℕ) (gate source drain : List ℕ) → place ≡ length before.graph.places →
      change ≡ before_place graph place → after ≡ with_transistor before kind strength gate source drain → IsUndone before.graph after.graph change
  undoes-transistor kind strength place gate source drain last told made =
      undoes-by before after change made (told ∙ ap (λ (g : GraphData). before_place g place) same ∙ ap (before_place before.graph) last)
      (undoes-with_transistor before kind strength gate source drain is)

  -- a transistor got other terminals
  pub undoes-wires : (number : ℕ) (gate source drain : List ℕ) → change ≡ before_place graph (number - 1) →
      after ≡ with_wires before number gate source drain → IsUndone before.graph after.graph change
  undoes-wires number gate source drain told made =
      undoes-by before after change made (told ∙ ap (λ (g : GraphData). before_place g (number - 1)) same)
      (undoes-with_wires before number gate source drain is)
