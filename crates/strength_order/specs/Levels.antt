-- One order of levels for sizes, strengths and input nodes: a higher level is stronger.
-- After Bryant, "A Switch-Level Model and Simulator for MOS Digital Systems", 1984.
-- The numbers of the levels are this project's own.
use Rattle.std.specs.Prelude.{ℕ, ◌+◌, ◌<◌, ◌≤◌}
use Rattle.strength_order.specs.declared.Profile.{Profile}
use Rattle.strength_order.specs.declared.Profile.TheVariants.{One, Two}

-- a level of the order: 1 to 16
pub record IsLevel (level : ℕ) : Type 0 where
  pub low : 1 ≤ level
  pub high : level ≤ 16

-- a level that is kept for sizes: 1 to 8
abbrev pub IsSizeLevel : ℕ → Type 0
IsSizeLevel level = (1 ≤ level) × (level ≤ 8)

-- a level that is kept for strengths: 9 to 15
abbrev pub IsSwitchLevel : ℕ → Type 0
IsSwitchLevel level = (9 ≤ level) × (level ≤ 15)

-- the level of size k is k
abbrev pub level_of_size : ℕ → ℕ
level_of_size k = k

-- the level of strength g is 8 + g
abbrev pub level_of_strength : ℕ → ℕ
level_of_strength g = 8 + g

-- the level of an input node: 16
abbrev pub level_of_input : ℕ
level_of_input = 16

-- the greatest size that a profile accepts: 3 in profile 1, 8 in profile 2
abbrev pub greatest_size : Profile → ℕ
greatest_size One = 3
greatest_size Two = 8

-- the greatest strength that a profile accepts: 4 in profile 1, 7 in profile 2
abbrev pub greatest_strength : Profile → ℕ
greatest_strength One = 4
greatest_strength Two = 7

-- a size that the profile accepts: 1 or more, and at most the greatest
abbrev pub IsSize : Profile → ℕ → Type 0
IsSize p k = (1 ≤ k) × (k ≤ greatest_size p)

-- a strength that the profile accepts: 1 or more, and at most the greatest
abbrev pub IsStrength : Profile → ℕ → Type 0
IsStrength p g = (1 ≤ g) × (g ≤ greatest_strength p)

-- every size that the profile accepts is weaker than every strength that it accepts
abbrev pub SizesAreBelowStrengths : Profile → Type 0
SizesAreBelowStrengths p =
    (k g : ℕ) → IsSize p k → IsStrength p g → level_of_size k < level_of_strength g

-- every strength that the profile accepts is weaker than an input node
abbrev pub StrengthsAreBelowInputs : Profile → Type 0
StrengthsAreBelowInputs p = (g : ℕ) → IsStrength p g → level_of_strength g < level_of_input
