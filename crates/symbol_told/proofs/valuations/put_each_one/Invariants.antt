-- The text so far and that of the variables that are left come to the text of all, and so does what was found.
use Rattle.std.proofs.Common.{◌≡◌, ◌||◌, ◌++◌}
use Rattle.std.specs.Prelude.{zip}
use Rattle.std.specs.List.{flat_map, list_any}
use Rattle.symbol_told.specs.Valuations.{is_one, one_text}
use Rattle.symbol_told.proofs.valuations.put_each_one.Given as goal

abbrev pub invariant-loop-name : goal.invariant-loop-name
invariant-loop-name l = record {
  bytes : l.out.bytes ++ flat_map one_text (zip l.name-iterator.a.rest.now l.name-iterator.b.rest.now)
      ≡ l.fn.out.bytes ++ flat_map one_text (zip l.variables l.truths);
  some : (l.some || list_any is_one (zip l.name-iterator.a.rest.now l.name-iterator.b.rest.now)) ≡ list_any is_one (zip l.variables l.truths);
}
