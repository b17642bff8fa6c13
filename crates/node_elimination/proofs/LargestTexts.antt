-- The largest texts: the bound on their gates is below that on code.
use Rattle.std.proofs.Common.{ℕ, ◌-◌, ◌^◌, ◌≤◌, arith}
use Rattle.std.specs.Prelude.{is_some}
use Rattle.std.proofs.Math.Nat.{pow-le-pow_left}
use Rattle.std.proofs.lemmas.List.Sums.{count_by-le-length}
use Rattle.switch_paths.specs.Graphs.{nodes}
use Rattle.group_text.specs.Texts.{GroupTextData, IsSmall}
use Rattle.group_analysis.specs.Meaning.{gate_bound, bound_of, switch_count}

-- of n members, e other nodes and t switches
largest_gates : (n e t : ℕ) → n ≤ 200 → e ≤ 2600 → t ≤ 800 → gate_bound n e t ≤ 2 ^ 30
largest_gates n e t few others switches =
    let square : n ^ 2 ≤ 40000 = pow-le-pow_left few 2 in
    let cube : n ^ 3 ≤ 8000000 = pow-le-pow_left few 3 in
    omega (arith, few, others, switches, square, cube)

pub largest_bound : (text : GroupTextData) → IsSmall text → bound_of text.graph text.members ≤ 2 ^ 30
largest_bound text small =
    let places = count_by-le-length is_some text.graph.places in
    largest_gates text.members (nodes text.graph - text.members) (switch_count text.graph) small.members (omega (arith, small.few)) (omega (arith, places, small.switches))
