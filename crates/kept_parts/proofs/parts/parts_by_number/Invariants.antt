-- The parts so far are made of the texts with their numbers, whichever list of texts these are.
use Rattle.std.proofs.Common.{◌≡◌, ℕ, ◌+◌, List, Some, map, take, length}
use Rattle.std.specs.Prelude.{zip, slice_get}
use Rattle.std.specs.List.{AllZip}
use Rattle.group_text.specs.Texts.{GroupTextData}
use Rattle.straight_code.specs.declared.part.Part.{Part}
use Rattle.circuit_texts.specs.Parts.{IsMadeOf}
use Rattle.kept_parts.specs.Uses.{texts_used}
use Rattle.kept_parts.proofs.parts.parts_by_number.Given as goal

abbrev pub invariant-loop-map : goal.invariant-loop-map
invariant-loop-map l = record {
  count : length l.parts.items ≡ length l.yielded;
  left : length l.yielded + length l.map-iterator.rest.items ≡ length l.uses.numbers;
  parts : (texts : List GroupTextData) → texts_used l.uses ≡ map Some texts →
      AllZip (λ made part. IsMadeOf made.0 made.1 part) (zip (take (length l.parts.items) texts) (map (λ nodes. nodes.items) l.yielded)) l.parts.items;
  coded : (k n : ℕ) (part : Part) → slice_get l.uses.numbers k ≡ Some (Some n) → slice_get l.parts.items k ≡ Some part →
      slice_get (map (λ code. code.value) l.codes.items) n ≡ Some part.code.value;
}
