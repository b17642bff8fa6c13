-- What is left to release comes to the same.
use Rattle.std.proofs.Common.{◌≡◌, length}
use Rattle.formulas.specs.Reading.{release}
use Rattle.formulas.proofs.reader.Reader.release.Given as goal

abbrev pub invariant-loop-part : goal.invariant-loop-part
invariant-loop-part l = record {
  same : release l.bound l.self-inside.waiting l.self-inside.parts.items ≡ release l.bound l.fn.self.waiting l.fn.self.parts;
  next : l.self-inside.next ≡ l.fn.self.next;
  name : l.self-inside.name.items ≡ l.fn.self.name;
}

abbrev pub decreases-loop-part : goal.decreases-loop-part
decreases-loop-part l = length l.self-inside.waiting
