-- So far the array begins with the constants and the rails of the inputs that were passed.
use Rattle.std.proofs.Common.{◌≡◌, ◌+◌, ◌*◌, [], map, take}
use Rattle.switch_paths.specs.Switching.{state_at}
use Rattle.straight_code.specs.Flat.{flat_values}
use Rattle.straight_code.proofs.flat.fill_rails.Given as goal

abbrev pub invariant-loop-j : goal.invariant-loop-j
invariant-loop-j l = take (2 + 2 * l.j) l.values ≡ flat_values (map (state_at l.state) (take l.j l.nodes)) []
