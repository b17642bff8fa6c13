use Rattle.std.proofs.Common.{◌≡◌}
use Rattle.spice_cards.specs.Reading.{with_globals}
use Rattle.spice_cards.proofs.reading.put_names.Given as goal

-- with the names that are left come those that all names give
abbrev pub invariant-loop-name : goal.invariant-loop-name
invariant-loop-name l = with_globals l.names l.name-iterator ≡ with_globals l.fn.names l.fn.more
