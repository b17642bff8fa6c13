use Rattle.std.proofs.Common.{◌≡◌, ℕ, List, None, drop, option_map}
use Rattle.std.specs.Borrow.{Bor}
use Rattle.std.specs.List.{zip}
use Rattle.spice_read.specs.Expansions.{last_named}
use Rattle.spice_read.proofs.ports.last_word.Given as goal

-- with the ports that are left what was found is what all ports give
abbrev pub invariant-loop-place : goal.invariant-loop-place
invariant-loop-place l =
    last_named (option_map (λ (word : Bor (List ℕ)). word.now) l.found) (zip (drop l.place l.ports) (drop l.place l.words)) l.name
    ≡ last_named None (zip l.fn.ports l.fn.words) l.fn.name
