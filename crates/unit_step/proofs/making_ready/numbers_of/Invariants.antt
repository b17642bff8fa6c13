-- The texts so far have their numbers.
use Rattle.std.proofs.Common.{◌≡◌, map, take, Some}
use Rattle.std.specs.Prelude.{slice_get}
use Rattle.kept_parts.specs.Uses.{IsNumbered, texts_used}
use Rattle.unit_step.proofs.making_ready.numbers_of.Given as goal

abbrev pub invariant-loop-text : goal.invariant-loop-text
invariant-loop-text l = record {
  same : texts_used l.uses ≡ texts_used l.fn.uses;
  numbered : IsNumbered l.fn.uses l.uses;
  numbers : map (slice_get l.uses.known) l.numbers.items ≡ map Some (take l.text-index l.texts);
}
