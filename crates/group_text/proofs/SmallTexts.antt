-- The text of a group that isn't too large is small: each of its switches brings at most three local nodes.
use Rattle.std.proofs.Common.{◌≡◌, ℕ, ◌*◌, ◌≤◌, Bool, true, false, not, inl, inr, List, [], ◌∷◌, ◌++◌, length, Some, None, refl, sym, ◌∙◌, length-append, true≢false, arith}
use Rattle.std.specs.Prelude.{Option, nat_lt, ◌==◌, if◌then◌else◌, option_map}
use Rattle.std.specs.List.{flat_map}
use Rattle.std.proofs.lemmas.Bool.{lt-ltb, cases_lt}
use Rattle.std.proofs.lemmas.List.{length-map}
use Rattle.std.proofs.lemmas.List.Sums.{length-filter, count_by-le-length}
use Rattle.switch_paths.specs.declared.switching.Switch.{Switch}
use Rattle.switch_paths.specs.Graphs.{place_at}
use Rattle.group_text.specs.declared.text.TheConstants.{MOST_MEMBERS, MOST_SWITCHES}
use Rattle.group_text.specs.declared.text.TextFault.TheVariants.{GroupNodes, GroupSwitches}
use Rattle.group_text.specs.Texts.{firsts, local_nodes, local_switch, terminals_of}
use Rattle.group_text.specs.Laws.{TextsAreSmall}
use Rattle.group_text.proofs.LocalEdges.{nodes_local}

-- there are no more firsts than items
firsts-few : (xs : List ℕ) → length (firsts xs) ≤ length xs
firsts-few [] = omega arith
firsts-few (x ∷ xs) =
    let others : ℕ → Bool = λ y. not (y == x) in
    omega (arith, firsts-few xs, length-filter others (firsts xs), count_by-le-length others (firsts xs))

-- what stands at a place has three terminals at most
terminals-few : (place : Option Switch) → length (terminals_of place) ≤ 3
terminals-few None = omega arith
terminals-few (Some switch) = omega arith

-- so the switches at some places have three times as many at most
terminals-all : (terminals : ℕ → List ℕ) → ((place : ℕ) → length (terminals place) ≤ 3) → (places : List ℕ) →
    length (flat_map terminals places) ≤ 3 * length places
terminals-all terminals each [] = omega arith
terminals-all terminals each (place ∷ places) =
    omega (arith, length-append (terminals place) (flat_map terminals places), each place, terminals-all terminals each places)

-- if there is no fault neither number is too large
no_fault : (over more : Bool) (members switches : ℕ) →
    (if over then Some (GroupNodes members) else (if more then Some (GroupSwitches switches) else None)) ≡ None → (over ≡ false) × (more ≡ false)
no_fault true more members switches none = absurd cc
no_fault false true members switches none = absurd cc
no_fault false false members switches none = (refl, refl)

at_most : (most count : ℕ) → nat_lt most count ≡ false → count ≤ most
at_most most count is =
    elim (cases_lt most count) [
      | inl over ↦ absurd (true≢false (sym (lt-ltb most count over) ∙ is))
      | inr fits ↦ fits
    ]

pub texts_small : TextsAreSmall
texts_small g group is_group none =
    let members = length group.members in
    let switches = length group.switches in
    let (over, more) = no_fault (nat_lt MOST_MEMBERS members) (nat_lt MOST_SWITCHES switches) members switches none in
    let few_members : members ≤ 200 = at_most MOST_MEMBERS members over in
    let few_switches : switches ≤ 800 = at_most MOST_SWITCHES switches more in
    let terminals : ℕ → List ℕ = λ place. terminals_of (place_at g.places place) in
    record {
      members = few_members;
      switches =
          omega (arith, few_switches, length-map group.switches (λ place. option_map (local_switch (local_nodes g group)) (place_at g.places place)));
      few =
          omega (
            arith,
            few_members,
            few_switches,
            nodes_local g group is_group,
            firsts-few (group.members ++ flat_map terminals group.switches),
            length-append group.members (flat_map terminals group.switches),
            terminals-all terminals (λ place. terminals-few (place_at g.places place)) group.switches,
          );
    }
