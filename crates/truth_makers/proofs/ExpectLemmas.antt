-- A state is the wanted one if neither rail differs from it.
use Rattle.std.proofs.Common.{◌≡◌, ◌↔◌, Bool, true, false, not, ◌||◌, refl, if◌then◌else◌, true≢false}
use Rattle.ternary.specs.declared.tern.Tern.{Tern}
use Rattle.ternary.specs.declared.tern.Tern.TheVariants.{Zero, One, Unk}
use Rattle.ternary.specs.Tern.{may_one, may_zero}
use Rattle.truth_makers.specs.Expecting.{state_of_truth}

-- exactly one of two truth values is true
abbrev pub unlike : Bool → Bool → Bool
unlike a b = if a then not b else b

-- the test of both rails
pub test_of_rails : (state : Tern) (wanted : Bool)
    → ((unlike (may_one state) wanted || unlike (may_zero state) (not wanted)) ≡ false) ↔ (state ≡ state_of_truth wanted)
test_of_rails Zero true = (λ e. absurd (true≢false e), λ e. cc)
test_of_rails Zero false = (λ e. refl, λ e. refl)
test_of_rails One true = (λ e. refl, λ e. refl)
test_of_rails One false = (λ e. absurd (true≢false e), λ e. cc)
test_of_rails Unk true = (λ e. absurd (true≢false e), λ e. cc)
test_of_rails Unk false = (λ e. absurd (true≢false e), λ e. cc)
