-- The bytes of the nodes before this one.
use Rattle.std.proofs.Common.{◌≡◌, map, take}
use Rattle.printed_lines.specs.Lines.{wanted_letter}
use Rattle.symbol_giving.specs.Letters.{letter_in}
use Rattle.symbol_expecting.specs.Missing.{column_with}
use Rattle.symbol_expecting.proofs.letters.letters.Given as goal

abbrev pub invariant-loop-k : goal.invariant-loop-k
invariant-loop-k l =
    l.bytes.items ≡ map (λ pair. wanted_letter (letter_in l.stage (column_with l.stage.machine.maker l.vars) pair.1)) (take l.k l.pairs)
