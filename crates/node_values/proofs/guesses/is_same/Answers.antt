-- At one place more the same byte stands; at the end that is so at each place.
use Rattle.std.proofs.Common.{arith}
use Rattle.std.proofs.lemmas.List.{ext_get_or}
use Rattle.node_values.proofs.guesses.is_same.Goals as goal

pub loop-place-init : goal.loop-place-init
loop-place-init c = λ k low. absurd (omega (arith, low))

pub returns : goal.returns
returns c = ext_get_or 0 c.args.one.now c.args.other.now (omega arith) (λ place low. c.loop-place.invariant place (omega (arith, low)))
