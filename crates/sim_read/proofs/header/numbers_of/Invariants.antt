use Rattle.std.proofs.Common.{◌≡◌, ◌++◌}
use Rattle.std.specs.Option.{option_map}
use Rattle.sim_read.specs.Header.{numbers_of}
use Rattle.sim_read.proofs.header.numbers_of.Given as goal

-- the numbers so far and those of the items left are those of all items
abbrev pub invariant-loop-item : goal.invariant-loop-item
invariant-loop-item l = option_map (λ more. l.numbers.items ++ more) (numbers_of l.item-iterator) ≡ numbers_of l.fn.items
