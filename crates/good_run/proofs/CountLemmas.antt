-- At how many nodes two states differ.
use Rattle.std.proofs.Common.{◌≡◌, ◌≢◌, ℕ, zero, suc, ◌+◌, ◌<◌, List, [], ◌∷◌, length, refl, arith}
use Rattle.std.specs.Prelude.{slice_set}
use Rattle.ternary.specs.declared.tern.Tern.{Tern}
use Rattle.ternary.specs.declared.tern.Tern.TheVariants.{Zero, One, Unk}
use Rattle.switch_paths.specs.Switching.{state_at}
use Rattle.good_run.specs.Recording.{apart_by, count_apart}

-- a node with one state doesn't differ
apart-same : (s : Tern) → apart_by s s ≡ 0
apart-same Zero = refl
apart-same One = refl
apart-same Unk = refl

-- and one with two does
apart-one : (s t : Tern) → s ≢ t → apart_by s t ≡ 1
apart-one Zero Zero differs = absurd (differs refl)
apart-one Zero One differs = refl
apart-one Zero Unk differs = refl
apart-one One Zero differs = refl
apart-one One One differs = absurd (differs refl)
apart-one One Unk differs = refl
apart-one Unk Zero differs = refl
apart-one Unk One differs = refl
apart-one Unk Unk differs = absurd (differs refl)

-- a state doesn't differ from itself
pub count_apart-same : (state : List Tern) → count_apart state state ≡ 0
count_apart-same [] = refl
count_apart-same (s ∷ state) = omega (arith, apart-same s, count_apart-same state)

-- if a node that differs is given its other state, one less differs
pub count_apart-set : (one two : List Tern) (node : ℕ) → node < length one → length two ≡ length one → state_at one node ≢ state_at two node →
    count_apart one two ≡ count_apart (slice_set one node (state_at two node)) two + 1
count_apart-set [] two node inside counted differs = absurd (omega (arith, inside))
count_apart-set (s ∷ one) [] node inside counted differs = absurd (omega (arith, counted))
count_apart-set (s ∷ one) (t ∷ two) zero inside counted differs = omega (arith, apart-one s t differs, apart-same t)
count_apart-set (s ∷ one) (t ∷ two) (suc node) inside counted differs =
    omega (arith, count_apart-set one two node (omega (arith, inside)) (omega (arith, counted)) differs)
