-- The kinds of instructions as tests.
use Rattle.std.specs.Prelude.{Bool, true, false}
use Rattle.straight_code.specs.declared.flat.StepKind.{StepKind}
use Rattle.straight_code.specs.declared.flat.StepKind.TheVariants.{Not, And, Or}

-- the kind is a Not
abbrev pub is_not : StepKind → Bool
is_not Not = true
is_not And = false
is_not Or = false

-- the kind is an Or
abbrev pub is_or : StepKind → Bool
is_or Not = false
is_or And = false
is_or Or = true
