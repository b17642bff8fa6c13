-- The functions before the place are put, and there is room for the others.
use Rattle.std.proofs.Common.{◌≡◌, ◌+◌, ◌++◌, take}
use Rattle.std.specs.Prelude.{vec_capacity, vec_len}
use Rattle.symbol_told.proofs.notes.extend_reserved.Given as goal

abbrev pub invariant-loop-function : goal.invariant-loop-function
invariant-loop-function l = record {
  items : l.list.items ≡ l.fn.list.items ++ take l.function-index l.more;
  count : vec_len l.list ≡ vec_len l.fn.list + l.function-index;
  room : vec_capacity l.list ≡ vec_capacity l.fn.list;
}
