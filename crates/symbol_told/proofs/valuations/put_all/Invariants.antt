-- The text so far and that of the variables that are left come to the text of all.
use Rattle.std.proofs.Common.{◌≡◌, ◌++◌}
use Rattle.std.specs.Prelude.{zip}
use Rattle.std.specs.List.{flat_map}
use Rattle.symbol_meaning.specs.Told.{variable_text}
use Rattle.symbol_told.proofs.valuations.put_all.Given as goal

abbrev pub invariant-loop-name : goal.invariant-loop-name
invariant-loop-name l =
    l.out.bytes ++ flat_map variable_text (zip l.name-iterator.a.rest.now l.name-iterator.b.rest.now)
    ≡ l.fn.out.bytes ++ flat_map variable_text (zip l.variables l.truths)
