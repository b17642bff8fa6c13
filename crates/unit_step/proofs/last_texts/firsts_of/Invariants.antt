-- The numbers so far stand once each.
use Rattle.std.proofs.Common.{◌≡◌, length, take}
use Rattle.unit_step.specs.LastTexts.{AreFirsts}
use Rattle.unit_step.proofs.last_texts.firsts_of.Given as goal

abbrev pub invariant-loop-number : goal.invariant-loop-number
invariant-loop-number l = record {
  counted : length l.seen.items ≡ l.count;
  are : AreFirsts (take l.number-index l.numbers) l.firsts.items l.seen.items;
}
