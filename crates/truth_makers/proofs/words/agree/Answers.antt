-- Words agree in the used columns if no used bit of one is turned by the other.
use Rattle.std.proofs.Common.{◌≡◌, ◌↔◌, ℕ, IsTrue, nat_eq, bit_and, rules, arith}
use Rattle.std.specs.Prelude.{bit_xor}
use Rattle.truth_makers.proofs.WordLemmas.{words-agree}
use Rattle.truth_makers.proofs.words.agree.Goals as goal

-- a test of two numbers
tested : (a b : ℕ) → IsTrue (nat_eq a b) ↔ (a ≡ b)
tested a b = search rules

pub returns : goal.returns
returns c =
    let both = tested (bit_and (bit_xor c.args.a c.args.b) c.args.used) 0 in
    let same = words-agree c.args.a c.args.b c.args.used (omega arith) in
    (λ yes. same.0 (both.0 yes), λ alike. both.1 (same.1 alike))
