-- The texts so far have their codes.
use Rattle.std.proofs.Common.{take}
use Rattle.std.specs.List.{AllZip}
use Rattle.group_analysis.specs.Meaning.{MeansText}
use Rattle.kept_parts.proofs.parts.codes_of.Given as goal

abbrev pub invariant-loop-text : goal.invariant-loop-text
invariant-loop-text l = AllZip (λ text code. MeansText text code.value) (take l.text-index l.texts) l.codes.items
