-- There is one.
use Rattle.std.proofs.Common.{◌≡◌, List, [], ◌∷◌, length, refl, arith}
use Rattle.std.specs.Prelude.{slice_index_or}
use Rattle.settling.specs.declared.settling.Settled.{Settled}
use Rattle.fault_stage.proofs.moving.first_of.Goals as goal

-- what is there is the same by any default
first_there : (counts : List Settled) (one other : Settled) → length counts ≡ 1 → slice_index_or counts 0 one ≡ slice_index_or counts 0 other
first_there [] one other none = absurd (omega (arith, none))
first_there (first ∷ counts) one other some = refl

pub returns : goal.returns
returns c = λ past. first_there c.args.counts.now _ past c.requires
