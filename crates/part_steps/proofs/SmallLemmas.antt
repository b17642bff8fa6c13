-- Parts of small texts: their maps and members add up to no more than numbers count, and their code has room.
use Rattle.std.proofs.Common.{ℕ, ◌-◌, ◌*◌, ◌^◌, ◌≤◌, inl, inr, List, [], ◌∷◌, length, All, arith}
use Rattle.std.specs.List.{sum_by}
use Rattle.std.proofs.lemmas.List.Elements.{All-head, All-tail, All-weaker}
use Rattle.std.proofs.lemmas.List.Sums.{sum_by-cons}
use Rattle.machine_parts.specs.declared.part.MachinePart.{MachinePart}
use Rattle.machine_parts.specs.Marking.{members_of}
use Rattle.machine_parts.specs.Making.{IsCodeRoom, NeedTooMuch}
use Rattle.part_steps.specs.Small.{IsSmallPart}

-- where each part counts for 2,600 at most, all together do for so many times their number
pub sum-small : (count : MachinePart → ℕ) (parts : List MachinePart) → All (λ part. count part ≤ 2600) parts →
    sum_by count parts ≤ 2600 * length parts
sum-small count [] each = omega arith
sum-small count (part ∷ parts) each =
    omega (
      arith,
      sum_by-cons count part parts,
      All-head (λ one. count one ≤ 2600) part parts each,
      sum-small count parts (All-tail (λ one. count one ≤ 2600) part parts each),
    )

-- code of a small text has room
code_room : (part : MachinePart) → IsSmallPart part → IsCodeRoom (2 ^ 64 - 1) part
code_room part small code has =
    let (inputs, instructions) = small.code code has in
    omega (arith, inputs, instructions)

pub no_need : (parts : List MachinePart) → length parts ≤ 2 ^ 32 → All IsSmallPart parts → ¬ NeedTooMuch parts
no_need parts few small needs =
    elim needs [
      | inl over ↦
          let members = sum-small members_of parts (All-weaker IsSmallPart (λ part. members_of part ≤ 2600)
          (λ part one. omega (arith, one.members)) parts small) in
          omega (arith, over, members, few)
      | inr none ↦ none (All-weaker IsSmallPart (IsCodeRoom (2 ^ 64 - 1)) code_room parts small)
    ]
