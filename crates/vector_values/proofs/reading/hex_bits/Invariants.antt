use Rattle.std.proofs.Common.{◌≡◌, drop}
use Rattle.vector_values.specs.Values.{hex_bits}
use Rattle.vector_values.proofs.ValueLemmas.{with_front}
use Rattle.vector_values.proofs.reading.hex_bits.Given as goal

abbrev pub invariant-loop-byte : goal.invariant-loop-byte
invariant-loop-byte l = hex_bits l.digits ≡ with_front l.bits.items (hex_bits (drop l.byte-index l.digits))
