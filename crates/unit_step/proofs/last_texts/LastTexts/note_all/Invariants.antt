-- The nodes at which the parts so far begin are noted.
use Rattle.std.proofs.Common.{◌≡◌, ℕ, ◌⊎◌, take}
use Rattle.std.specs.Prelude.{Contains}
use Rattle.machine_laws.specs.Beginnings.{BeginsAt}
use Rattle.unit_step.proofs.last_texts.LastTexts.note_all.Given as goal

abbrev pub invariant-loop-k : goal.invariant-loop-k
invariant-loop-k l = record {
  numbers : l.self.numbers ≡ l.fn.self.numbers;
  stays : (node : ℕ) → Contains l.fn.self.changed.items node → Contains l.self.changed.items node;
  only : (node : ℕ) → Contains l.self.changed.items node → Contains l.fn.self.changed.items node ⊎ ((k : ℕ) × Contains l.slots k × BeginsAt l.parts k node);
  all : (k node : ℕ) → Contains (take l.k-index l.slots) k → BeginsAt l.parts k node → Contains l.self.changed.items node;
}
