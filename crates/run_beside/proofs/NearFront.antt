-- The flag of each change among the first ones, or among the last, is unset if it is at each of their places.
use Rattle.std.proofs.Common.{◌≡◌, ℕ, ◌+◌, ◌<◌, ◌≤◌, Bool, List, length, take, drop, get_or, sym, subst, ◌∙◌, arith}
use Rattle.std.specs.Prelude.{Contains}
use Rattle.std.proofs.lemmas.List.{get_or-take, get_or-drop, get_or_default, length-take, length-drop}
use Rattle.std.proofs.lemmas.List.Elements.{All-contains}
use Rattle.part_words.specs.declared.change.Change.{Change}
use Rattle.part_advance.proofs.NextChange.{default_change}
use Rattle.run_beside.specs.Near.{IsOut}

-- the flag of each of them is unset, if it is at each of the first places
pub first_is_out : (near : List Bool) (changes : List Change) (first : ℕ) →
    ((j : ℕ) → j < length changes → j < first → IsOut near (get_or changes j default_change).node) →
    (change : Change) → Contains (take first changes) change → IsOut near change.node
first_is_out near changes first out change there =
    All-contains (λ (one : Change). IsOut near one.node) (take first changes) change
    (λ i one inside.
    let counted = length-take first changes in
    let early : i < first = omega (arith, inside, counted) in
    let within : i < length changes = omega (arith, inside, counted) in
    let same : get_or changes i default_change ≡ get_or (take first changes) i one =
    get_or_default changes i default_change one within ∙ sym (get_or-take first changes i one early) in
    subst (λ (other : Change). IsOut near other.node) same (out i within early))
    there

pub last_is_out : (near : List Bool) (changes : List Change) (end : ℕ) →
    ((j : ℕ) → j < length changes → end ≤ j → IsOut near (get_or changes j default_change).node) →
    (change : Change) → Contains (drop end changes) change → IsOut near change.node
last_is_out near changes end out change there =
    All-contains (λ (one : Change). IsOut near one.node) (drop end changes) change
    (λ i one inside.
    let within : end + i < length changes = omega (arith, inside, length-drop end changes) in
    let same : get_or changes (end + i) default_change ≡ get_or (drop end changes) i one =
    get_or_default changes (end + i) default_change one within ∙ sym (get_or-drop end changes i one) in
    subst (λ (other : Change). IsOut near other.node) same (out (end + i) within (omega arith)))
    there
