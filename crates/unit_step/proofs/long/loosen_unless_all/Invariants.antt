-- Of the parts so far some have lost their codes, and all whose groups are stepped by vicinities.
use Rattle.machine_laws.specs.Finishing.{Loosens}
use Rattle.unit_step.proofs.LongLemmas.{LoosensUpTo}
use Rattle.unit_step.proofs.long.loosen_unless_all.Given as goal

abbrev pub invariant-loop-place : goal.invariant-loop-place
invariant-loop-place l = record {
  loosens : Loosens l.fn.parts l.parts;
  held : LoosensUpTo l.wide l.place l.parts;
}
