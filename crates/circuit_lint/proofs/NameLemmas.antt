-- Names stand for nodes of the graph alone, so a number past the last node has none; and what notes a name notes it for its node.
use Rattle.std.proofs.Common.{◌≡◌, ℕ, ◌<◌, ◌≤◌, List, [], ◌∷◌, All, Some, None, unwrap_or, nat_eq, refl, ap, ◌∙◌, arith}
use Rattle.std.proofs.lemmas.Bool.{ne_eqb, cond-false}
use Rattle.std.proofs.lemmas.List.Elements.{All-head, All-tail}
use Rattle.switch_paths.specs.declared.TheConstants.{GND, VDD}
use Rattle.switch_paths.specs.Graphs.{nodes}
use Rattle.netlist.specs.Names.{first_name}
use Rattle.netlist.specs.Circuits.{CircuitData, IsCircuit, called}

first-past : (names : List (List ℕ × ℕ)) (count node : ℕ) → All (λ entry. entry.1 < count) names → count ≤ node → first_name names node ≡ None
first-past [] count node within past = refl
first-past (entry ∷ entries) count node within past =
    let here : entry.1 < count = All-head (λ (e : List ℕ × ℕ). e.1 < count) entry entries within in
    cond-false (nat_eq entry.1 node) (Some entry.0) (first_name entries node) (ne_eqb entry.1 node (λ e. omega (arith, here, past, e)))
    ∙ first-past entries count node (All-tail (λ (e : List ℕ × ℕ). e.1 < count) entry entries within) past

pub called-past : (c : CircuitData) (node : ℕ) → IsCircuit c → nodes c.graph ≤ node → called c node ≡ []
called-past c node is past =
    ap (λ name. unwrap_or name [])
    (cond-false (nat_eq node GND) _ _ (ne_eqb node GND (λ e. omega (arith, is.railed, past, e)))
    ∙ cond-false (nat_eq node VDD) _ _ (ne_eqb node VDD (λ e. omega (arith, is.railed, past, e)))
    ∙ first-past c.names (nodes c.graph) node is.within past)
