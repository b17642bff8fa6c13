-- The nodes at which a step may have changed the state, as an observer is told.
use Rattle.std.specs.Prelude.{ℕ, List, Option, None, Some}
use Rattle.std.proofs.Common.{Global, Vec}
use Rattle.settling.specs.PlainStepping.{numbers_from}

-- those that are listed, and if there is no list all
abbrev pub nodes_told : Option (Vec ℕ Global) → ℕ → List ℕ
nodes_told None count = numbers_from 0 count
nodes_told (Some changed) count = changed.items
