-- The texts so far have their parts.
use Rattle.std.proofs.Common.{◌≡◌, ◌+◌, map, take, length}
use Rattle.std.specs.Prelude.{zip}
use Rattle.std.specs.List.{AllZip}
use Rattle.circuit_texts.specs.Parts.{IsMadeOf}
use Rattle.kept_parts.proofs.parts.parts_of.Given as goal

abbrev pub invariant-loop-map : goal.invariant-loop-map
invariant-loop-map l = record {
  count : length l.parts.items ≡ length l.yielded;
  left : length l.yielded + length l.map-iterator.rest.items ≡ length l.texts;
  parts : AllZip (λ made part. IsMadeOf made.0 made.1 part) (zip (take (length l.parts.items) l.texts) (map (λ nodes. nodes.items) l.yielded)) l.parts.items;
}
