-- What an observer is told of a step lists the nodes that it changed.
use Rattle.std.proofs.Common.{◌≡◌, ℕ, List, length, Global, Vec, sym, subst}
use Rattle.std.specs.Prelude.{Option, None, Some, IfSome}
use Rattle.ternary.specs.declared.tern.Tern.{Tern}
use Rattle.settling.specs.Moved.{ListsChanges}
use Rattle.settling.proofs.NumbersLemmas.{listed_after}
use Rattle.unit_step.specs.Listing.{nodes_told}

pub told_lists : (changed : Option (Vec ℕ Global)) (nodes : List ℕ) (old new : List Tern) →
    IfSome changed (λ (list : Vec ℕ Global). list.items ≡ nodes) → ListsChanges nodes old new → ListsChanges (nodes_told changed (length new)) old new
told_lists None nodes old new told lists = listed_after old new lists.count
told_lists (Some list) nodes old new told lists = subst (λ nodes. ListsChanges nodes old new) (sym told) lists
